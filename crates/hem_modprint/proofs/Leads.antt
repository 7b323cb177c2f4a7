-- A grammar goes over a text: its tokens, and the states to which they lead.
use Rattle.std.proofs.Common.{rules, ◌≡◌, ℕ, suc, ◌-◌, ◌<◌, ◌≤◌, ◌^◌, Bool, true, false, cond, not, ◌&&◌, List, [], ◌∷◌, ◌++◌, length, take, drop, refl, sym, ap, ◌∙◌, subst, arith, append_assoc, Some}
use Rattle.std.specs.Prelude.{fold, option_and_then, codes, decimal}
use Rattle.std.specs.List.{list_all, prefix_len}
use Rattle.std.specs.Char.{is_ascii_alphabetic, is_ascii_digit}
use Rattle.std.proofs.lemmas.Fmt.{digits_decimal, digits_value-decimal, decimal_nonempty}
use Rattle.std.proofs.lemmas.Str.Parse.{IsNumeralModel, numerals_by_fold}
use Rattle.hem_base.specs.Words.{is_word_byte, is_word_text}
use Rattle.hem_text.specs.declared.text.TokenKind.{TokenKind}
use Rattle.hem_text.specs.declared.text.TokenKind.TheVariants as kind
use Rattle.hem_text.specs.declared.text.Place.{Place}
use Rattle.hem_text.specs.declared.text.Piece.{Piece}
use Rattle.hem_text.specs.Lexemes.{Lexeme}
use Rattle.hem_text.specs.Numbers.{with_digit, number_of}
use Rattle.hem_text.specs.Tokens.{is_space, begins_comment, is_pair, kind_of_run, token, piece_of, advance, with_token, tokens_from}
use Rattle.hem_text.specs.Grammars.{Grammar, State, full, state, next, run, Reads}
use Rattle.hem_text.specs.Parts.{IsPart}
use Rattle.hem_text.proofs.Runs.{run-append, fault_excludes, reads_once}

-- the text at a place, and before the tail, has tokens that lead from one state to another
pub record Leads {E T I : Type 0} (g : Grammar E T I) (place : Place) (text tail : List ℕ) (s u : State E T I) : Type 0 where
  pub tokens : List Lexeme
  pub lexed : tokens_from 0 place (text ++ tail) ≡ tokens ++ tokens_from 0 (fold advance place text) tail
  pub runs : run full g s tokens ≡ Some u

fold_both : (place : Place) (a b : List ℕ) → fold advance place (a ++ b) ≡ fold advance (fold advance place a) b
fold_both place [] b = refl
fold_both place (x ∷ a) b = fold_both (advance place x) a b

pub nothing : {E T I : Type 0} (g : Grammar E T I) (place : Place) (tail : List ℕ) (s : State E T I) → Leads g place [] tail s s
nothing g place tail s = record { tokens = []; lexed = refl; runs = refl }

-- one text after another
pub then : {E T I : Type 0} (g : Grammar E T I) (place : Place) (a b tail : List ℕ) (s u v : State E T I) → Leads g place a (b ++ tail) s u → Leads g (fold advance place a) b tail u v → Leads g place (a ++ b) tail s v
then g place a b tail s u v first second = record {
  tokens = first.tokens ++ second.tokens;
  lexed =
      ap (tokens_from 0 place) (append_assoc a b tail)
      ∙ first.lexed
      ∙ ap (λ (l : List Lexeme). first.tokens ++ l) second.lexed
      ∙ sym (append_assoc first.tokens second.tokens (tokens_from 0 (fold advance (fold advance place a) b) tail))
      ∙ ap (λ (p : Place). (first.tokens ++ second.tokens) ++ tokens_from 0 p tail) (sym (fold_both place a b));
  runs =
      run-append full g s first.tokens second.tokens
      ∙ ap (λ o. option_and_then (λ u. run full g u second.tokens) o) first.runs
      ∙ second.runs;
}

-- white space

pub space : {E T I : Type 0} (g : Grammar E T I) (place : Place) (tail : List ℕ) (s : State E T I) → Leads g place (codes " ") tail s s
space g place tail s = record { tokens = []; lexed = refl; runs = refl }

pub feed : {E T I : Type 0} (g : Grammar E T I) (place : Place) (tail : List ℕ) (s : State E T I) → Leads g place (codes "\n") tail s s
feed g place tail s = record { tokens = []; lexed = refl; runs = refl }

-- tokens

pass : (bs cur : List ℕ) (place : Place) → tokens_from (length bs) place (bs ++ cur) ≡ tokens_from 0 (fold advance place bs) cur
pass [] cur place = refl
pass (b ∷ bs) cur place = pass bs cur (advance place b)

take_front : {X : Type 0} (t cur : List X) → take (length t) (t ++ cur) ≡ t
take_front [] cur = refl
take_front (b ∷ t) cur = ap (λ l. b ∷ l) (take_front t cur)

drop_front : {X : Type 0} (t cur : List X) → drop (length t) (t ++ cur) ≡ cur
drop_front [] cur = refl
drop_front (b ∷ t) cur = drop_front t cur

-- a token of this kind and text at a place
abbrev pub at : TokenKind → List ℕ → Place → Lexeme
at k text place = record { kind = k; text = text; place = place }

token_leads : {E T I : Type 0} (g : Grammar E T I) (place : Place) (k : TokenKind) (b : ℕ) (bs tail : List ℕ) (s u : State E T I)
    → piece_of (b ∷ (bs ++ tail)) ≡ token k (suc (length bs)) → next full g s (at k (b ∷ bs) place) ≡ Some u → Leads g place (b ∷ bs) tail s u
token_leads g place k b bs tail s u piece goes = record {
  tokens = at k (b ∷ bs) place ∷ [];
  lexed =
      let n : suc (length bs) - 1 ≡ length bs = omega arith in
      ap (λ (q : Piece). with_token q place (b ∷ (bs ++ tail)) (tokens_from (q.len - 1) (advance place b) (bs ++ tail))) piece
      ∙ ap (λ (l : List Lexeme). at k (take (suc (length bs)) (b ∷ (bs ++ tail))) place ∷ l)
      (ap (λ (m : ℕ). tokens_from m (advance place b) (bs ++ tail)) n ∙ pass bs tail (advance place b))
      ∙ ap (λ (t : List ℕ). at k t place ∷ tokens_from 0 (fold advance (advance place b) bs) tail) (take_front (b ∷ bs) tail);
  runs = ap (λ o. option_and_then (λ v. run full g v []) o) goes;
}

-- runs

-- a text that doesn't begin with a byte of runs
abbrev pub is_apart : List ℕ → Bool
is_apart [] = true
is_apart (c ∷ cs) = not (is_word_byte c)

not_true : (b : Bool) → not b ≡ true → b ≡ false
not_true false h = refl
not_true true h = absurd cc

and_both : (a b : Bool) → (a && b) ≡ true → (a ≡ true) × (b ≡ true)
and_both true true h = (refl, refl)
and_both true false h = absurd cc
and_both false b h = absurd cc

if_true : {A : Type 0} (b : Bool) (x y : A) → b ≡ true → cond b x y ≡ x
if_true b x y h = rw h refl

if_false : {A : Type 0} (b : Bool) (x y : A) → b ≡ false → cond b x y ≡ y
if_false b x y h = rw h refl

run_len : (bs cur : List ℕ) → list_all is_word_byte bs ≡ true → is_apart cur ≡ true → prefix_len is_word_byte (bs ++ cur) ≡ length bs
run_len [] [] all apart = refl
run_len [] (c ∷ cs) all apart = if_false _ _ _ (not_true _ apart)
run_len (b ∷ bs) cur all apart =
    let here = and_both (is_word_byte b) _ all in
    let rest = run_len bs cur here.1 apart in
    rw (here.0, rest) (omega arith)

-- a run at the front, of a kind
run_piece : (k : TokenKind) (b : ℕ) (bs cur : List ℕ) → is_space b ≡ false → begins_comment b ≡ false → list_all is_word_byte (b ∷ bs) ≡ true → kind_of_run (b ∷ bs) ≡ k → is_apart cur ≡ true
    → piece_of (b ∷ (bs ++ cur)) ≡ token k (suc (length bs))
run_piece k b bs cur space comment all is apart =
    if_false _ _ _ space
    ∙ if_false _ _ _ comment
    ∙ if_true _ _ _ (and_both (is_word_byte b) _ all).0
    ∙ ap (λ (n : ℕ). token (kind_of_run (take n (b ∷ (bs ++ cur)))) n) (run_len (b ∷ bs) cur all apart)
    ∙ ap (λ (t : List ℕ). token (kind_of_run t) (suc (length bs))) (take_front (b ∷ bs) cur)
    ∙ ap (λ (q : TokenKind). token q (suc (length bs))) is

letter_is : (b : ℕ) → is_ascii_alphabetic b ≡ true → (is_space b ≡ false) × (begins_comment b ≡ false) × (is_word_byte b ≡ true)
letter_is b h = (no_space, no_comment, rw h refl)
  where
    no_space : is_space b ≡ false
    no_space = grind arith

    no_comment : begins_comment b ≡ false
    no_comment = grind arith

digit_is : (b : ℕ) → is_ascii_digit b ≡ true → (is_space b ≡ false) × (begins_comment b ≡ false) × (is_ascii_alphabetic b ≡ false) × (is_word_byte b ≡ true)
digit_is b h = (no_space, no_comment, no_letter, inside)
  where
    no_space : is_space b ≡ false
    no_space = grind arith

    no_comment : begins_comment b ≡ false
    no_comment = grind arith

    no_letter : is_ascii_alphabetic b ≡ false
    no_letter = grind arith

    inside : is_word_byte b ≡ true
    inside = grind arith

-- a word at the front
pub word : {E T I : Type 0} (g : Grammar E T I) (place : Place) (t tail : List ℕ) (s u : State E T I) → is_word_text t ≡ true → is_apart tail ≡ true → next full g s (at kind.Word t place) ≡ Some u → Leads g place t tail s u
word g place [] tail s u is apart goes = absurd cc
word g place (b ∷ bs) tail s u is apart goes =
    let parts = and_both (is_ascii_alphabetic b) _ is in
    let letter = letter_is b parts.0 in
    let all : list_all is_word_byte (b ∷ bs) ≡ true = rw letter.2 parts.1 in
    token_leads g place kind.Word b bs tail s u (run_piece kind.Word b bs tail letter.0 letter.1 all (if_true _ _ _ parts.0) apart) goes

-- a number at the front

own : IsNumeralModel (λ ds. list_all is_ascii_digit ds ≡ true) number_of
own = numerals_by_fold _ (search rules) (λ n ds. fold with_digit n ds) (search rules)

pub number_back : (n : ℕ) → n < 2 ^ 64 → number_of (decimal n) ≡ n
number_back n lt = digits_value-decimal own n lt

digits_inside : (ds : List ℕ) → list_all is_ascii_digit ds ≡ true → list_all is_word_byte ds ≡ true
digits_inside [] h = refl
digits_inside (d ∷ ds) h =
    let parts = and_both (is_ascii_digit d) _ h in
    let digit = digit_is d parts.0 in
    rw (digit.3, digits_inside ds parts.1) refl

pub number : {E T I : Type 0} (g : Grammar E T I) (place : Place) (n : ℕ) (tail : List ℕ) (s u : State E T I) → n < 2 ^ 64 → is_apart tail ≡ true → next full g s (at kind.Number (decimal n) place) ≡ Some u → Leads g place (decimal n) tail s u
number g place n tail s u lt apart goes = go (decimal n) (digits_decimal own n lt) (decimal_nonempty n lt) goes
  where
    go : (ds : List ℕ) → list_all is_ascii_digit ds ≡ true → 0 < length ds → next full g s (at kind.Number ds place) ≡ Some u → Leads g place ds tail s u
    go [] all some goes = absurd (omega arith)
    go (d ∷ ds) all some goes =
        let digit = digit_is d (and_both (is_ascii_digit d) _ all).0 in
        token_leads g place kind.Number d ds tail s u (run_piece kind.Number d ds tail digit.0 digit.1 (digits_inside (d ∷ ds) all) (if_false _ _ _ digit.2 ∙ if_true _ _ _ all) apart) goes

-- parentheses

open_pair : (cur : List ℕ) → is_pair (40 ∷ cur) ≡ false
open_pair [] = refl
open_pair (c ∷ cs) = refl

close_pair : (cur : List ℕ) → is_pair (41 ∷ cur) ≡ false
close_pair [] = refl
close_pair (c ∷ cs) = refl

pub opening : {E T I : Type 0} (g : Grammar E T I) (place : Place) (tail : List ℕ) (s u : State E T I) → next full g s (at kind.Sign (codes "(") place) ≡ Some u → Leads g place (codes "(") tail s u
opening g place tail s u goes = token_leads g place kind.Sign 40 [] tail s u (if_false _ _ _ (open_pair tail)) goes

pub closing : {E T I : Type 0} (g : Grammar E T I) (place : Place) (tail : List ℕ) (s u : State E T I) → next full g s (at kind.Sign (codes ")") place) ≡ Some u → Leads g place (codes ")") tail s u
closing g place tail s u goes = token_leads g place kind.Sign 41 [] tail s u (if_false _ _ _ (close_pair tail)) goes

-- a comma

comma_pair : (cur : List ℕ) → is_pair (44 ∷ cur) ≡ false
comma_pair [] = refl
comma_pair (c ∷ cs) = refl

pub comma : {E T I : Type 0} (g : Grammar E T I) (place : Place) (tail : List ℕ) (s u : State E T I) → next full g s (at kind.Sign (codes ",") place) ≡ Some u → Leads g place (codes ",") tail s u
comma g place tail s u goes = token_leads g place kind.Sign 44 [] tail s u (if_false _ _ _ (comma_pair tail)) goes

-- a text that leads to an end is a part
pub part : {E T I : Type 0} (g : Grammar E T I) (place : Place) (text tail : List ℕ) (s : State E T I) (e : E) → Leads g place text tail s (state e []) → IsPart g s (tokens_from 0 place (text ++ tail)) (tokens_from 0 (fold advance place text) tail) e
part g place text tail s e leads = subst (λ ts. IsPart g s ts (tokens_from 0 (fold advance place text) tail) e) (sym leads.lexed) whole
  where
    rest : List Lexeme
    rest = tokens_from 0 (fold advance place text) tail

    longer : (xs ys : List Lexeme) → length xs ≤ length (xs ++ ys)
    longer [] ys = omega arith
    longer (x ∷ xs) ys = omega (arith, longer xs ys)

    reads : Reads g s (leads.tokens ++ rest) (length leads.tokens) e
    reads = record { within = longer leads.tokens rest; runs = ap (run full g s) (take_front leads.tokens rest) ∙ leads.runs }

    whole : IsPart g s (leads.tokens ++ rest) (tokens_from 0 (fold advance place text) tail) e
    whole = record {
      count = length leads.tokens;
      reads = reads;
      others = sym (drop_front leads.tokens rest);
      only = record {
        once = λ m f other. reads_once g s (leads.tokens ++ rest) m (length leads.tokens) f e other reads;
        faultless = λ k cause fault. fault_excludes g s (leads.tokens ++ rest) (length leads.tokens) k e cause reads fault;
      };
    }
