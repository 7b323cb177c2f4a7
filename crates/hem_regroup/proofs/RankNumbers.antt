-- The numbers of ranks.
use Rattle.std.proofs.Common.{◌≡◌, ◌≢◌, refl, sym, ap, ◌∙◌, subst, ℕ, zero, suc, ◌+◌, ◌<◌, ◌≤◌, Bool, true, false, List, [], ◌∷◌, ◌++◌, ◌||◌, map, length, get_or, arith, ◌⊎◌, inl, inr, ⊎_elim}
use Rattle.std.specs.Prelude.{◌==◌}
use Rattle.std.proofs.Math.Seq.{ext_get_or, get_or-append_seam}
use Rattle.std.proofs.Math.ListN.{get_or-append}
use Rattle.std.proofs.lemmas.Bool.{eq-eqb, eqb-true, ne_eqb, cases_eq, or_cases, true≢false}
use Rattle.std.proofs.lemmas.List.{length-map}
use Rattle.std.proofs.lemmas.List.Folds.{list_any-append, list_any_at}
use Rattle.hem_tree.specs.Tree.{below}
use Rattle.hem_tree.proofs.Lawful.{length_below}
use Rattle.hem_law.specs.Orders.{stands_in}
use Rattle.hem_regroup.specs.declared.member.Member.{Member}
use Rattle.hem_regroup.specs.Members.{IsBelow, IsWhole}
use Rattle.hem_regroup.specs.Ready.{Ascends}
use Rattle.hem_regroup.proofs.Renumbered.{KeepsApart}

-- the number of a rank; past the last rank one that no transaction has
abbrev pub number_of : List ℕ → ℕ → ℕ → ℕ
number_of starts bound r = get_or starts r (bound + r)

pub below_or : (a n : ℕ) → (a < n) ⊎ (n ≤ a)
below_or zero zero = inr (omega arith)
below_or zero (suc n) = inl (omega arith)
below_or (suc a) zero = inr (omega arith)
below_or (suc a) (suc n) = ⊎_elim (λ less. inl (omega (arith, less))) (λ past. inr (omega (arith, past))) (below_or a n)

past : (xs : List ℕ) (i d : ℕ) → length xs ≤ i → get_or xs i d ≡ d
past [] i d out = refl
past (x ∷ xs) zero d out = absurd (omega (arith, out))
past (x ∷ xs) (suc i) d out = past xs i d (omega (arith, out))

pub same_inside : (xs : List ℕ) (i d e : ℕ) → i < length xs → get_or xs i d ≡ get_or xs i e
same_inside [] i d e inside = absurd (omega arith)
same_inside (x ∷ xs) zero d e inside = refl
same_inside (x ∷ xs) (suc i) d e inside = same_inside xs i d e (omega arith)

stands-at : (xs : List ℕ) (k d : ℕ) → k < length xs → stands_in xs (get_or xs k d) ≡ true
stands-at xs k d within = list_any_at (λ u. u == get_or xs k d) xs k d within (eq-eqb _ _ refl)

-- they rise
rises-in : (xs : List ℕ) (i j d e : ℕ) → Ascends xs → i < j → j < length xs → get_or xs i d < get_or xs j e
rises-in [] i j d e ascends less within = absurd (omega arith)
rises-in (x ∷ xs) zero zero d e ascends less within = absurd (omega arith)
rises-in (x ∷ xs) zero (suc j) d e ascends less within = ascends.0 (get_or xs j e) (stands-at xs j e (omega arith))
rises-in (x ∷ xs) (suc i) zero d e ascends less within = absurd (omega arith)
rises-in (x ∷ xs) (suc i) (suc j) d e ascends less within = rises-in xs i j d e ascends.1 (omega arith) (omega arith)

rises : (starts : List ℕ) (bound : ℕ) → Ascends starts → ((u : ℕ) → stands_in starts u ≡ true → u < bound) → (a b : ℕ) → a < b → number_of starts bound a < number_of starts bound b
rises starts bound ascends low a b less =
    ⊎_elim
    (λ (inside : b < length starts). rises-in starts a b (bound + a) (bound + b) ascends less inside)
    (λ (out : length starts ≤ b).
    let after = past starts b (bound + b) out in
    ⊎_elim
    (λ (inside : a < length starts). let it = low (get_or starts a (bound + a)) (stands-at starts a (bound + a) inside) in omega (arith, it, after))
    (λ (out_too : length starts ≤ a). let before = past starts a (bound + a) out_too in omega (arith, before, after, less))
    (below_or a (length starts)))
    (below_or b (length starts))

pub keeps_apart : (starts : List ℕ) (bound : ℕ) → Ascends starts → ((u : ℕ) → stands_in starts u ≡ true → u < bound) → KeepsApart (number_of starts bound)
keeps_apart starts bound ascends low a b =
    ⊎_elim
    (λ (same : a ≡ b). eq-eqb _ _ (ap (number_of starts bound) same) ∙ sym (eq-eqb a b same))
    (λ (other : a ≢ b). ne_eqb _ _ (λ is.
    ⊎_elim
    (λ (less : a < b). let up = rises starts bound ascends low a b less in omega (arith, up, is))
    (λ (not_less : b ≤ a).
    ⊎_elim
    (λ (more : b < a). let up = rises starts bound ascends low b a more in omega (arith, up, is))
    (λ (not_more : a ≤ b). other (omega (arith, not_less, not_more)))
    (below_or b a))
    (below_or a b))
    ∙ sym (ne_eqb a b other))
    (cases_eq a b)

-- the numbers below a number
at_below : (n k d : ℕ) → k < n → get_or (below n) k d ≡ k
at_below zero k d less = absurd (omega arith)
at_below (suc n) k d less =
    ⊎_elim
    (λ (inside : k < n). get_or-append (below n) (n ∷ []) d k (let size = length_below n in omega (arith, size, inside)) ∙ at_below n k d inside)
    (λ (out : n ≤ k).
    let last : length (below n) ≡ k = let size = length_below n in omega (arith, size, out, less) in
    let is : n ≡ k = omega (arith, out, less) in
    subst (λ j. get_or (below n ++ n ∷ []) j d ≡ k) last (get_or-append_seam (below n) n [] d ∙ is))
    (below_or k n)

pub in_below : (n u : ℕ) → stands_in (below n) u ≡ true → u < n
in_below zero u there = absurd (true≢false (sym there))
in_below (suc n) u there =
    ⊎_elim
    (λ earlier. let less = in_below n u earlier in omega (arith, less))
    (λ last. ⊎_elim (λ here. let is = eqb-true n u here in omega (arith, is)) (λ none. absurd (true≢false (sym none))) (or_cases (n == u) false last))
    (or_cases (stands_in (below n) u) (stands_in (n ∷ []) u) (sym (list_any-append (λ x. x == u) (below n) (n ∷ [])) ∙ there))

pub stands_below : (n u : ℕ) → u < n → stands_in (below n) u ≡ true
stands_below n u less = subst (λ v. stands_in (below n) v ≡ true) (at_below n u 0 less) (stands-at (below n) u 0 (let size = length_below n in omega (arith, size, less)))

ascends-more : (xs : List ℕ) (n : ℕ) → Ascends xs → ((u : ℕ) → stands_in xs u ≡ true → u < n) → Ascends (xs ++ n ∷ [])
ascends-more [] n ascends low = (λ u there. absurd (true≢false (sym there)), tt)
ascends-more (x ∷ xs) n ascends low = (
  λ u there.
      ⊎_elim
      (λ earlier. ascends.0 u earlier)
      (λ last. ⊎_elim (λ here. let is = eqb-true n u here in let less = low x (first x xs) in omega (arith, is, less)) (λ none. absurd (true≢false (sym none))) (or_cases (n == u) false last))
      (or_cases (stands_in xs u) (stands_in (n ∷ []) u) (sym (list_any-append (λ x. x == u) xs (n ∷ [])) ∙ there)),
  ascends-more xs n ascends.1 (λ u there. low u (later x xs u there)),
)
  where
    first : (x : ℕ) (xs : List ℕ) → stands_in (x ∷ xs) x ≡ true
    first x xs = stands-at (x ∷ xs) 0 0 (omega arith)

    later : (x : ℕ) (xs : List ℕ) (u : ℕ) → stands_in xs u ≡ true → stands_in (x ∷ xs) u ≡ true
    later x xs u there = by (x == u)
      where
        by : (b : Bool) → (b || stands_in xs u) ≡ true
        by true = refl
        by false = there

pub below_ascends : (n : ℕ) → Ascends (below n)
below_ascends zero = tt
below_ascends (suc n) = ascends-more (below n) n (below_ascends n) (in_below n)

-- each rank's number is that of the transaction
pub mapped-at : (f : ℕ → ℕ) (xs : List ℕ) (k d e : ℕ) → k < length xs → get_or (map f xs) k d ≡ f (get_or xs k e)
mapped-at f [] k d e within = absurd (omega arith)
mapped-at f (x ∷ xs) zero d e within = refl
mapped-at f (x ∷ xs) (suc k) d e within = mapped-at f xs k d e (omega arith)

pub starts_mapped : (starts : List ℕ) (bound : ℕ) → map (number_of starts bound) (below (length starts)) ≡ starts
starts_mapped starts bound =
    ext_get_or 0 (map (number_of starts bound) (below (length starts))) starts (length-map (below (length starts)) (number_of starts bound) ∙ length_below (length starts))
    (λ k within.
    let inside : k < length starts = let mapped = length-map (below (length starts)) (number_of starts bound) in let size = length_below (length starts) in omega (arith, within, mapped, size) in
    mapped-at (number_of starts bound) (below (length starts)) k 0 0 (let size = length_below (length starts) in omega (arith, inside, size))
    ∙ ap (number_of starts bound) (at_below (length starts) k 0 inside)
    ∙ same_inside starts k (bound + k) 0 inside)

pub numbers_mapped : (starts ranks numbers : List ℕ) (bound : ℕ) → length ranks ≡ length numbers → ((k : ℕ) → k < length numbers → get_or ranks k 0 < length starts) → ((k : ℕ) → k < length numbers → get_or starts (get_or ranks k 0) 0 ≡ get_or numbers k 0) → map (number_of starts bound) ranks ≡ numbers
numbers_mapped starts ranks numbers bound size low are =
    ext_get_or 0 (map (number_of starts bound) ranks) numbers (length-map ranks (number_of starts bound) ∙ size)
    (λ k within.
    let inside : k < length numbers = let mapped = length-map ranks (number_of starts bound) in omega (arith, within, mapped, size) in
    mapped-at (number_of starts bound) ranks k 0 0 (omega (arith, inside, size))
    ∙ same_inside starts (get_or ranks k 0) (bound + get_or ranks k 0) 0 (low k inside)
    ∙ are k inside)

-- members with ranks below a number are among the numbers below it
pub below_whole_of : (count : ℕ) (members : List Member) → IsBelow count members → IsWhole members (below count)
below_whole_of count [] low = tt
below_whole_of count (m ∷ members) low = (stands_below count m.number low.0, below_whole_of count members low.1)
