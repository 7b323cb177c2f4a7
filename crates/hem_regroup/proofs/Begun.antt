-- Transactions that begin among numbered firings, for tests.
use Rattle.std.proofs.Common.{◌≡◌, sym, ap, ◌∙◌, subst, ℕ, zero, suc, ◌+◌, ◌<◌, Bool, true, false, cond, List, [], ◌∷◌, length, take, get_or, Some, add-one, arith}
use Rattle.std.proofs.Math.Seq.{take-suc}
use Rattle.std.specs.Prelude.{◌==◌, slice_get}
use Rattle.std.proofs.lemmas.Bool.{eq-eqb, or_left, or_right}
use Rattle.hem_law.specs.Orders.{stands_in}
use Rattle.hem_law.proofs.ListFacts.{each-append}
use Rattle.hem_regroup.specs.declared.numbered.Numbered.{Numbered}
use Rattle.hem_regroup.specs.Starts.{starts, AreAmong}

-- one begins at the place of its number
begins_at : (k : ℕ) (xs : List Numbered) (j : ℕ) (x : Numbered) → slice_get xs j ≡ Some x → x.number ≡ k + j → stands_in (starts k xs) (k + j) ≡ true
begins_at k [] j x there is = cc
begins_at k (y ∷ xs) zero x there is =
    let same : y ≡ x = cc in
    let at : k ≡ y.number = sym (ap (λ y. y.number) same ∙ is ∙ plus_zero k) in
    ap (λ b. stands_in (cond b (y.number ∷ starts (k + 1) xs) (starts (k + 1) xs)) (k + 0)) (eq-eqb k y.number at) ∙ or_left _ _ (eq-eqb y.number (k + 0) (sym at ∙ sym (plus_zero k)))
  where
    plus_zero : (k : ℕ) → k + 0 ≡ k
    plus_zero k = omega arith
begins_at k (y ∷ xs) (suc j) x there is =
    ap (stands_in (starts k (y ∷ xs))) (sym (one_on k j)) ∙ more (k == y.number) (begins_at (k + 1) xs j x there (is ∙ sym (one_on k j)))
  where
    one_on : (k j : ℕ) → k + 1 + j ≡ k + suc j
    one_on k j = omega arith

    more : (b : Bool) → stands_in (starts (k + 1) xs) (k + 1 + j) ≡ true → stands_in (cond b (y.number ∷ starts (k + 1) xs) (starts (k + 1) xs)) (k + 1 + j) ≡ true
    more true rest = or_right (y.number == (k + 1 + j)) _ rest
    more false rest = rest

pub begins_there : (all : List Numbered) (n : ℕ) (x : Numbered) → slice_get all n ≡ Some x → x.number ≡ n → stands_in (starts 0 all) n ≡ true
begins_there all n x there is = ap (stands_in (starts 0 all)) (sym (zero_plus n)) ∙ begins_at 0 all n x there (is ∙ sym (zero_plus n))
  where
    zero_plus : (n : ℕ) → 0 + n ≡ n
    zero_plus n = omega arith

pub among_more : (all : List Numbered) (k : ℕ) (d : Numbered) (left : List ℕ) → k < length all → AreAmong (take k all) left → stands_in left (get_or all k d).number ≡ true → AreAmong (take (k + 1) all) left
among_more all k d left within among there =
    subst (λ xs. AreAmong xs left) (sym (ap (λ k. take k all) (add-one k) ∙ take-suc all k d within)) (each-append (λ x. stands_in left x.number ≡ true) (take k all) (get_or all k d ∷ []) among (there, tt))
