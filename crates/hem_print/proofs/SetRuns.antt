-- Sets of statuses read back.
use Rattle.std.proofs.Common.{◌≡◌, ℕ, zero, suc, ◌+◌, ◌<◌, ◌≤◌, ◌^◌, Bool, true, false, cond, not, ◌&&◌, List, [], ◌∷◌, ◌++◌, length, length-append, refl, sym, ap, ◌∙◌, arith, append_assoc}
use Rattle.std.specs.Prelude.{unwrap_or, max}
use Rattle.std.specs.Int.{bit_at}
use Rattle.std.proofs.lemmas.Nat.Bits.{bit_at_above, bit_at_or}
use Rattle.hem_base.specs.Sets.{has_bit}
use Rattle.hem_base.specs.declared.ids.Status8.{Status8}
use Rattle.hem_base.specs.declared.ids.StatusSet.{StatusSet}
use Rattle.hem_text.specs.declared.symbol.Symbol.{Symbol}
use Rattle.hem_text.specs.declared.symbol.Symbol.TheVariants.{One, Many}
use Rattle.hem_text.specs.Lexemes.{Lexeme}
use Rattle.hem_text.specs.Grammars.{state}
use Rattle.hem_grammar.specs.declared.terminals.Terminal.{Terminal}
use Rattle.hem_grammar.specs.declared.terminals.Item.{Item}
use Rattle.hem_grammar.specs.Grammar.{follows, firsts}
use Rattle.hem_syntax.specs.Protocol.{Text}
use Rattle.hem_syntax.specs.Lawful.{are_distinct}
use Rattle.hem_grammar.specs.Draft.{Read, is_in, place_in, bit, with_status, no_status, spells, is_fresh, is_within, after}
use Rattle.hem_text.specs.Spelling.{is_word}
use Rattle.hem_print.specs.Canonical.{Word, named, spelling, names_in}
use Rattle.hem_print.proofs.Steps.{lex, go, picks, pick, skip}
use Rattle.hem_print.proofs.Naming.{name_at, place_of_name, name_known, cond_true, cond_false}

-- the status of that name
abbrev pub status_in : List Text → Text → Status8
status_in names text = record { 0 = unwrap_or (place_in names text) 0 }

-- an environment that holds a set, which two terminals fill
pub record Fills (names : List Text) (env : StatusSet → Read) (first more : Terminal) (item : Item) : Type 0 where
  pub first_spelled : (s : StatusSet) (t : Lexeme) → spells (env s) first t ≡ (is_word t && is_in names t.text)
  pub more_spelled : (s : StatusSet) (t : Lexeme) → spells (env s) more t ≡ (is_word t && is_in names t.text)
  pub first_fresh : (s : StatusSet) (text : Text) → is_fresh (env s) first text ≡ true
  pub more_fresh : (s : StatusSet) (text : Text) → is_fresh (env s) more text ≡ not (has_bit s.0 (status_in names text).0)
  pub first_within : (s : StatusSet) (text : Text) → is_within (env s) first text ≡ true
  pub more_within : (s : StatusSet) (text : Text) → is_within (env s) more text ≡ true
  pub first_says : (s : StatusSet) (text : Text) → after (env s) first text ≡ env (with_status s (status_in names text))
  pub more_says : (s : StatusSet) (text : Text) → after (env s) more text ≡ env (with_status s (status_in names text))
  pub first_ends : follows first ≡ []
  pub more_ends : follows more ≡ []
  pub begins : firsts item ≡ more ∷ []

-- the set with a status more where it is in another set
abbrev pub filled : StatusSet → ℕ → List Text → StatusSet → StatusSet
filled set i [] acc = acc
filled set i (n ∷ ns) acc = filled set (i + 1) ns (cond (has_bit set.0 i) (with_status acc (record { 0 = i })) acc)

-- no bit from that place on
abbrev pub IsBelow : ℕ → StatusSet → Type 0
IsBelow i s = (j : ℕ) → i ≤ j → bit_at s.0 j ≡ 0

bit_below : (i j : ℕ) → i < 4 → i + 1 ≤ j → bit_at (bit (record { 0 = i })) j ≡ 0
bit_below zero j lt le = bit_at_above 1 1 j (omega arith) (omega arith)
bit_below (suc zero) j lt le = bit_at_above 2 2 j (omega arith) (omega arith)
bit_below (suc (suc zero)) j lt le = bit_at_above 4 3 j (omega arith) (omega arith)
bit_below (suc (suc (suc zero))) j lt le = bit_at_above 8 4 j (omega arith) (omega arith)
bit_below (suc (suc (suc (suc i)))) j lt le = absurd (omega arith)

below_more : (i : ℕ) (s : StatusSet) → i < 4 → IsBelow i s → IsBelow (i + 1) (with_status s (record { 0 = i }))
below_more i s lt below j le = bit_at_or s.0 (bit (record { 0 = i })) j ∙ max_zero (below j (omega arith)) (bit_below i j lt le)
  where
    max_zero : {a b : ℕ} → a ≡ 0 → b ≡ 0 → max a b ≡ 0
    max_zero e f = rw (e, f) refl

below_same : (i : ℕ) (s : StatusSet) → IsBelow i s → IsBelow (i + 1) s
below_same i s below j le = below j (omega arith)

fresh_bit : (i : ℕ) (s : StatusSet) → IsBelow i s → not (has_bit s.0 i) ≡ true
fresh_bit i s below = rw (below i (omega arith)) refl

-- what a name at a place gives
name_here : (names done ns : List Text) (n : Text) (i : ℕ) → names ≡ done ++ n ∷ ns → length done ≡ i → (name_at names i ≡ n) × (i < length names)
name_here names done ns n i is len = (rw (is, ← len) (at done), rw is (omega (arith, length-append done (n ∷ ns))))
  where
    at : (done : List Text) → name_at (done ++ n ∷ ns) (length done) ≡ n
    at [] = refl
    at (d ∷ ds) = at ds

pub record Here (names : List Text) (n : Text) (i : ℕ) : Type 0 where
  pub known : is_in names n ≡ true
  pub place : status_in names n ≡ record { 0 = i }

here : (names done ns : List Text) (n : Text) (i : ℕ) → are_distinct names ≡ true → names ≡ done ++ n ∷ ns → length done ≡ i → Here names n i
here names done ns n i distinct is len =
    let at = name_here names done ns n i is len in
    record {
      known = rw (← at.0) (name_known names i at.1);
      place = ap (λ o. record { 0 = unwrap_or o 0 }) (ap (place_in names) (sym at.0) ∙ place_of_name names i distinct at.1);
    }

one_further : (names done ns : List Text) (n : Text) → names ≡ done ++ n ∷ ns → names ≡ (done ++ n ∷ []) ++ ns
one_further names done ns n is = is ∙ sym (append_assoc done (n ∷ []) ns)

length_further : (done : List Text) (n : Text) (i : ℕ) → length done ≡ i → length (done ++ n ∷ []) ≡ i + 1
length_further done n i len = length-append done (n ∷ []) ∙ ap (λ k. k + 1) len

few_further : (i : ℕ) (n : Text) (ns : List Text) → i + length (n ∷ ns) ≤ 4 → i + 1 + length ns ≤ 4
few_further i n ns few = omega arith

module _ (names : List Text) (distinct : are_distinct names ≡ true) (env : StatusSet → Read) (first more : Terminal) (item : Item) (fills : Fills names env first more item)
    (rest : List (Symbol Terminal Item)) (w : Word) (ws : List Word) (stops : (is_word (lex w) && is_in names (spelling w)) ≡ false) where
  stop : (acc : StatusSet) → go (state (env acc) (Many item ∷ rest)) (w ∷ ws) ≡ go (state (env acc) rest) (w ∷ ws)
  stop acc = skip (env acc) w ws (Many item) rest refl (ap (picks (env acc) w) fills.begins ∙ cond_false _ _ _ (fills.more_spelled acc (lex w) ∙ stops))

  read_more : (acc : StatusSet) (n : Text) (i : ℕ) (tail : List Word) → Here names n i → IsBelow i acc →
      go (state (env acc) (Many item ∷ rest)) (named n ∷ tail) ≡ go (state (env (with_status acc (record { 0 = i }))) (Many item ∷ rest)) tail
  read_more acc n i tail h below =
      pick (env acc) (named n) tail (Many item) rest more
      (ap (picks (env acc) (named n)) fills.begins ∙ cond_true _ _ _ (fills.more_spelled acc (lex (named n)) ∙ h.known))
      (fills.more_fresh acc n ∙ ap (λ (s : Status8). not (has_bit acc.0 s.0)) h.place ∙ fresh_bit i acc below)
      (fills.more_within acc n)
      ∙ ap (λ (l : List (Symbol Terminal Item)). go (state (after (env acc) more n) (l ++ Many item ∷ rest)) tail) fills.more_ends
      ∙ ap (λ (e : Read). go (state e (Many item ∷ rest)) tail) (fills.more_says acc n ∙ ap (λ (s : Status8). env (with_status acc s)) h.place)

  read_first : (n : Text) (i : ℕ) (tail : List Word) → Here names n i →
      go (state (env no_status) (One first ∷ Many item ∷ rest)) (named n ∷ tail) ≡ go (state (env (with_status no_status (record { 0 = i }))) (Many item ∷ rest)) tail
  read_first n i tail h =
      pick (env no_status) (named n) tail (One first) (Many item ∷ rest) first
      (cond_true _ _ _ (fills.first_spelled no_status (lex (named n)) ∙ h.known))
      (fills.first_fresh no_status n)
      (fills.first_within no_status n)
      ∙ ap (λ (l : List (Symbol Terminal Item)). go (state (after (env no_status) first n) (l ++ Many item ∷ rest)) tail) fills.first_ends
      ∙ ap (λ (e : Read). go (state e (Many item ∷ rest)) tail) (fills.first_says no_status n ∙ ap (λ (s : Status8). env (with_status no_status s)) h.place)

  more_run : (set : StatusSet) (done ns : List Text) (i : ℕ) (acc : StatusSet) → names ≡ done ++ ns → length done ≡ i → i + length ns ≤ 4 → IsBelow i acc →
      go (state (env acc) (Many item ∷ rest)) (names_in set i ns ++ w ∷ ws) ≡ go (state (env (filled set i ns acc)) rest) (w ∷ ws)
  more_run set done [] i acc is len few below = stop acc
  more_run set done (n ∷ ns) i acc is len few below =
      at (has_bit set.0 i)
      (λ acc'. more_run set (done ++ n ∷ []) ns (i + 1) acc' (one_further names done ns n is) (length_further done n i len) (few_further i n ns few))
    where
      at : (b : Bool) → ((acc' : StatusSet) → IsBelow (i + 1) acc' → go (state (env acc') (Many item ∷ rest)) (names_in set (i + 1) ns ++ w ∷ ws) ≡ go (state (env (filled set (i + 1) ns acc')) rest) (w ∷ ws)) →
          go (state (env acc) (Many item ∷ rest)) ((cond b (named n ∷ []) [] ++ names_in set (i + 1) ns) ++ w ∷ ws)
          ≡ go (state (env (filled set (i + 1) ns (cond b (with_status acc (record { 0 = i })) acc))) rest) (w ∷ ws)
      at true later =
          read_more acc n i (names_in set (i + 1) ns ++ w ∷ ws) (here names done ns n i distinct is len) below
          ∙ later (with_status acc (record { 0 = i })) (below_more i acc (omega arith) below)
      at false later = later acc (below_same i acc below)

  first_run : (set : StatusSet) (done ns : List Text) (i : ℕ) → names ≡ done ++ ns → length done ≡ i → i + length ns ≤ 4 → ((filled set i ns no_status).0 ≡ 0 → ⊥) →
      go (state (env no_status) (One first ∷ Many item ∷ rest)) (names_in set i ns ++ w ∷ ws) ≡ go (state (env (filled set i ns no_status)) rest) (w ∷ ws)
  first_run set done [] i is len few some = absurd (some refl)
  first_run set done (n ∷ ns) i is len few some =
      at (has_bit set.0 i) some
      (λ some'. first_run set (done ++ n ∷ []) ns (i + 1) (one_further names done ns n is) (length_further done n i len) (few_further i n ns few) some')
    where
      at : (b : Bool) → ((filled set (i + 1) ns (cond b (with_status no_status (record { 0 = i })) no_status)).0 ≡ 0 → ⊥) →
          (((filled set (i + 1) ns no_status).0 ≡ 0 → ⊥) → go (state (env no_status) (One first ∷ Many item ∷ rest)) (names_in set (i + 1) ns ++ w ∷ ws) ≡ go (state (env (filled set (i + 1) ns no_status)) rest) (w ∷ ws)) →
          go (state (env no_status) (One first ∷ Many item ∷ rest)) ((cond b (named n ∷ []) [] ++ names_in set (i + 1) ns) ++ w ∷ ws)
          ≡ go (state (env (filled set (i + 1) ns (cond b (with_status no_status (record { 0 = i })) no_status))) rest) (w ∷ ws)
      at true some later =
          read_first n i (names_in set (i + 1) ns ++ w ∷ ws) (here names done ns n i distinct is len)
          ∙ more_run set (done ++ n ∷ []) ns (i + 1) (with_status no_status (record { 0 = i })) (one_further names done ns n is) (length_further done n i len) (few_further i n ns few)
          (below_more i no_status (omega arith) (λ j le. bit_at_above 0 0 j (omega arith) (omega arith)))
      at false some later = later some

-- the statuses of a set make the set again
refills : (names : List Text) (s : ℕ) → 2 ≤ length names → length names ≤ 4 → s < 2 ^ length names → filled (record { 0 = s }) 0 names no_status ≡ record { 0 = s }
refills [] s some few lt = absurd (omega arith)
refills (a ∷ []) s some few lt = absurd (omega arith)
refills (a ∷ b ∷ []) zero some few lt = refl
refills (a ∷ b ∷ []) (suc zero) some few lt = refl
refills (a ∷ b ∷ []) (suc (suc zero)) some few lt = refl
refills (a ∷ b ∷ []) (suc (suc (suc zero))) some few lt = refl
refills (a ∷ b ∷ []) (suc (suc (suc (suc s)))) some few lt = absurd (omega arith)
refills (a ∷ b ∷ c ∷ []) s some few lt = eight s lt
  where
    eight : (s : ℕ) → s < 8 → filled (record { 0 = s }) 0 (a ∷ b ∷ c ∷ []) no_status ≡ record { 0 = s }
    eight zero lt = refl
    eight (suc zero) lt = refl
    eight (suc (suc zero)) lt = refl
    eight (suc (suc (suc zero))) lt = refl
    eight (suc (suc (suc (suc zero)))) lt = refl
    eight (suc (suc (suc (suc (suc zero))))) lt = refl
    eight (suc (suc (suc (suc (suc (suc zero)))))) lt = refl
    eight (suc (suc (suc (suc (suc (suc (suc zero))))))) lt = refl
    eight (suc (suc (suc (suc (suc (suc (suc (suc s)))))))) lt = absurd (omega arith)
refills (a ∷ b ∷ c ∷ d ∷ []) s some few lt = sixteen s lt
  where
    sixteen : (s : ℕ) → s < 16 → filled (record { 0 = s }) 0 (a ∷ b ∷ c ∷ d ∷ []) no_status ≡ record { 0 = s }
    sixteen zero lt = refl
    sixteen (suc zero) lt = refl
    sixteen (suc (suc zero)) lt = refl
    sixteen (suc (suc (suc zero))) lt = refl
    sixteen (suc (suc (suc (suc zero)))) lt = refl
    sixteen (suc (suc (suc (suc (suc zero))))) lt = refl
    sixteen (suc (suc (suc (suc (suc (suc zero)))))) lt = refl
    sixteen (suc (suc (suc (suc (suc (suc (suc zero))))))) lt = refl
    sixteen (suc (suc (suc (suc (suc (suc (suc (suc zero)))))))) lt = refl
    sixteen (suc (suc (suc (suc (suc (suc (suc (suc (suc zero))))))))) lt = refl
    sixteen (suc (suc (suc (suc (suc (suc (suc (suc (suc (suc zero)))))))))) lt = refl
    sixteen (suc (suc (suc (suc (suc (suc (suc (suc (suc (suc (suc zero))))))))))) lt = refl
    sixteen (suc (suc (suc (suc (suc (suc (suc (suc (suc (suc (suc (suc zero)))))))))))) lt = refl
    sixteen (suc (suc (suc (suc (suc (suc (suc (suc (suc (suc (suc (suc (suc zero))))))))))))) lt = refl
    sixteen (suc (suc (suc (suc (suc (suc (suc (suc (suc (suc (suc (suc (suc (suc zero)))))))))))))) lt = refl
    sixteen (suc (suc (suc (suc (suc (suc (suc (suc (suc (suc (suc (suc (suc (suc (suc zero))))))))))))))) lt = refl
    sixteen (suc (suc (suc (suc (suc (suc (suc (suc (suc (suc (suc (suc (suc (suc (suc (suc s)))))))))))))))) lt = absurd (omega arith)
refills (a ∷ b ∷ c ∷ d ∷ e ∷ names) s some few lt = absurd (omega arith)

-- a set and what follows it
pub set_run : (names : List Text) → are_distinct names ≡ true → (env : StatusSet → Read) (first more : Terminal) (item : Item) → Fills names env first more item →
    (rest : List (Symbol Terminal Item)) (w : Word) (ws : List Word) → (is_word (lex w) && is_in names (spelling w)) ≡ false →
    2 ≤ length names → length names ≤ 4 → (set : StatusSet) → (set.0 ≡ 0 → ⊥) → set.0 < 2 ^ length names →
    go (state (env no_status) (One first ∷ Many item ∷ rest)) (names_in set 0 names ++ w ∷ ws) ≡ go (state (env set) rest) (w ∷ ws)
set_run names distinct env first more item fills rest w ws stops some few set non_empty lt =
    let again = refills names set.0 some few lt in
    first_run names distinct env first more item fills rest w ws stops set [] names 0 refl refl (omega arith) (λ none. non_empty (ap (λ (s : StatusSet). s.0) (sym again) ∙ none))
    ∙ ap (λ (s : StatusSet). go (state (env s) rest) (w ∷ ws)) again
