-- The first of a list that passes a test, as far as a loop has come.
use Rattle.std.proofs.Common.{◌≡◌, refl, sym, ap, ◌∙◌, ℕ, zero, suc, ◌+◌, ◌<◌, ◌≤◌, add-one, arith, Bool, true, false, cond, List, [], ◌∷◌, ◌++◌, length, map, drop, get_or, Option, Some, None}
use Rattle.std.specs.Prelude.{find, slice_get}
use Rattle.std.specs.List.{flat_map}
use Rattle.std.specs.Option.{option_or}
use Rattle.std.proofs.lemmas.List.{drop_all}
use Rattle.std.proofs.lemmas.List.Folds.{find-append}

-- an element that fails is passed over
mapped_past : {A B : Type 0} (test : B → Bool) (g : A → B) (xs : List A) (i : ℕ) (d : A) → i < length xs → test (g (get_or xs i d)) ≡ false → find test (map g (drop (suc i) xs)) ≡ find test (map g (drop i xs))
mapped_past test g [] i d less fails = absurd (omega arith)
mapped_past test g (x ∷ xs) zero d less fails = sym (ap (λ b. cond b (Some (g x)) (find test (map g xs))) fails)
mapped_past test g (x ∷ xs) (suc i) d less fails = mapped_past test g xs i d (omega arith) fails

pub mapped_next : {A B : Type 0} (test : B → Bool) (g : A → B) (xs : List A) (i : ℕ) (d : A) → i < length xs → test (g (get_or xs i d)) ≡ false → find test (map g (drop (i + 1) xs)) ≡ find test (map g (drop i xs))
mapped_next test g xs i d less fails = ap (λ n. find test (map g (drop n xs))) (add-one i) ∙ mapped_past test g xs i d less fails

-- one that passes is the first
pub mapped_here : {A B : Type 0} (test : B → Bool) (g : A → B) (xs : List A) (i : ℕ) (d : A) → i < length xs → test (g (get_or xs i d)) ≡ true → find test (map g (drop i xs)) ≡ Some (g (get_or xs i d))
mapped_here test g [] i d less passes = absurd (omega arith)
mapped_here test g (x ∷ xs) zero d less passes = ap (λ b. cond b (Some (g x)) (find test (map g xs))) passes
mapped_here test g (x ∷ xs) (suc i) d less passes = mapped_here test g xs i d (omega arith) passes

-- behind the last there is none
pub mapped_end : {A B : Type 0} (test : B → Bool) (g : A → B) (xs : List A) (i : ℕ) → length xs ≤ i → find test (map g (drop i xs)) ≡ None
mapped_end test g xs i past = ap (λ ys. find test (map g ys)) (drop_all i xs past)

-- where none passes, none does of any place
pub mapped_none : {A B : Type 0} (test : B → Bool) (g : A → B) (xs : List A) (i : ℕ) (x : A) → find test (map g xs) ≡ None → slice_get xs i ≡ Some x → test (g x) ≡ false
mapped_none test g [] i x none at = cc
mapped_none test g (y ∷ ys) i x none at = by_test i at (test (g y)) refl none (λ i none at. mapped_none test g ys i x none at)
  where
    by_test : (i : ℕ) → slice_get (y ∷ ys) i ≡ Some x → (b : Bool) → test (g y) ≡ b → cond b (Some (g y)) (find test (map g ys)) ≡ None → ((i : ℕ) → find test (map g ys) ≡ None → slice_get ys i ≡ Some x → test (g x) ≡ false) → test (g x) ≡ false
    by_test i at true is none rest = cc
    by_test zero at false is none rest = let same : y ≡ x = cc in ap (λ z. test (g z)) (sym same) ∙ is
    by_test (suc i) at false is none rest = rest i none at

-- the first of two lists together
first_of : {B : Type 0} (test : B → Bool) (xs ys : List B) (y : B) → find test xs ≡ Some y → find test (xs ++ ys) ≡ Some y
first_of test xs ys y is = find-append test xs ys ∙ ap (λ o. option_or o (find test ys)) is

second_of : {B : Type 0} (test : B → Bool) (xs ys : List B) → find test xs ≡ None → find test (xs ++ ys) ≡ find test ys
second_of test xs ys is = find-append test xs ys ∙ ap (λ o. option_or o (find test ys)) is

-- an element whose list has none is passed over
flat_past : {A B : Type 0} (test : B → Bool) (g : A → List B) (xs : List A) (i : ℕ) (d : A) → i < length xs → find test (g (get_or xs i d)) ≡ None → find test (flat_map g (drop (suc i) xs)) ≡ find test (flat_map g (drop i xs))
flat_past test g [] i d less none = absurd (omega arith)
flat_past test g (x ∷ xs) zero d less none = sym (second_of test (g x) (flat_map g xs) none)
flat_past test g (x ∷ xs) (suc i) d less none = flat_past test g xs i d (omega arith) none

pub flat_next : {A B : Type 0} (test : B → Bool) (g : A → List B) (xs : List A) (i : ℕ) (d : A) → i < length xs → find test (g (get_or xs i d)) ≡ None → find test (flat_map g (drop (i + 1) xs)) ≡ find test (flat_map g (drop i xs))
flat_next test g xs i d less none = ap (λ n. find test (flat_map g (drop n xs))) (add-one i) ∙ flat_past test g xs i d less none

pub flat_here : {A B : Type 0} (test : B → Bool) (g : A → List B) (xs : List A) (i : ℕ) (d : A) (y : B) → i < length xs → find test (g (get_or xs i d)) ≡ Some y → find test (flat_map g (drop i xs)) ≡ Some y
flat_here test g [] i d y less is = absurd (omega arith)
flat_here test g (x ∷ xs) zero d y less is = first_of test (g x) (flat_map g xs) y is
flat_here test g (x ∷ xs) (suc i) d y less is = flat_here test g xs i d y (omega arith) is

-- where none passes, neither list has one
none_in_either : {B : Type 0} (test : B → Bool) (xs ys : List B) → find test (xs ++ ys) ≡ None → (find test xs ≡ None) × (find test ys ≡ None)
none_in_either {B = B} test xs ys none = by_first (find test xs) refl
  where
    by_first : (o : Option B) → find test xs ≡ o → (find test xs ≡ None) × (find test ys ≡ None)
    by_first None is = (is, sym (second_of test xs ys is) ∙ none)
    by_first (Some y) is = let clash = sym (first_of test xs ys y is) ∙ none in cc

-- and the list of an element that is found has none
pub flat_none : {A B : Type 0} (test : B → Bool) (g : A → List B) (which : A → Bool) (xs : List A) (x : A) → find which xs ≡ Some x → find test (flat_map g xs) ≡ None → find test (g x) ≡ None
flat_none test g which [] x is none = cc
flat_none test g which (y ∷ ys) x is none =
    let parts = none_in_either test (g y) (flat_map g ys) none in
    by_test (which y) is parts.0 (λ is. flat_none test g which ys x is parts.1)
  where
    by_test : (b : Bool) → cond b (Some y) (find which ys) ≡ Some x → find test (g y) ≡ None → (find which ys ≡ Some x → find test (g x) ≡ None) → find test (g x) ≡ None
    by_test true is here rest = let same : y ≡ x = cc in ap (λ z. find test (g z)) (sym same) ∙ here
    by_test false is here rest = rest is
