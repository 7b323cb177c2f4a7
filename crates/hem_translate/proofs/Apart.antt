-- A list without an element twice, put into a set in order.
use Rattle.std.proofs.Common.{◌≡◌, refl, ap, sym, ◌∙◌, ℕ, zero, suc, ◌+◌, arith, Bool, true, false, not, cond, ◌&&◌, ◌||◌, List, [], ◌∷◌, ◌++◌, map, take, Some}
use Rattle.std.specs.Prelude.{slice_get}
use Rattle.std.specs.List.{list_any}
use Rattle.indexmap.specs.IndexSet.{insert_key}
use Rattle.hem_module.specs.Lawful.{are_apart}

first_of : (a b : Bool) → (a && b) ≡ true → a ≡ true
first_of true b h = refl
first_of false b h = cc

second_of : (a b : Bool) → (a && b) ≡ true → b ≡ true
second_of true b h = h
second_of false b h = cc

not_false : (b : Bool) → not b ≡ true → b ≡ false
not_false true h = cc
not_false false h = refl

neither : (a b : Bool) → a ≡ false → b ≡ false → (a || b) ≡ false
neither a b first second = cc

left_false : (a b : Bool) → (a || b) ≡ false → a ≡ false
left_false true b h = cc
left_false false b h = refl

right_false : (a b : Bool) → (a || b) ≡ false → b ≡ false
right_false true b h = cc
right_false false b h = h

-- what no element passes none of them passes
none_at : {A : Type 0} (test : A → Bool) (xs : List A) (i : ℕ) (x : A) → list_any test xs ≡ false → slice_get xs i ≡ Some x → test x ≡ false
none_at test [] i x none at = cc
none_at test (y ∷ ys) zero x none at =
    let same : y ≡ x = cc in
    ap test (sym same) ∙ left_false (test y) (list_any test ys) none
none_at test (y ∷ ys) (suc i) x none at = none_at test ys i x (right_false (test y) (list_any test ys) none) at

-- an element is none of those before it
pub none_before : {A : Type 0} (same : A → A → Bool) → ((a b : A) → same a b ≡ same b a) → (xs : List A) (i : ℕ) (x : A) → are_apart same xs ≡ true → slice_get xs i ≡ Some x → list_any (same x) (take i xs) ≡ false
none_before same turned [] i x apart at = cc
none_before same turned (y ∷ ys) zero x apart at = refl
none_before same turned (y ∷ ys) (suc i) x apart at =
    let first = none_at (same y) ys i x (not_false _ (first_of _ (are_apart same ys) apart)) at in
    let rest = none_before same turned ys i x (second_of (not (list_any (same y) ys)) (are_apart same ys) apart) at in
    neither (same x y) (list_any (same x) (take i ys)) (turned x y ∙ first) rest

taken : {A : Type 0} (xs : List A) (i : ℕ) (x : A) → slice_get xs i ≡ Some x → take i xs ++ x ∷ [] ≡ take (suc i) xs
taken [] i x at = cc
taken (y ∷ ys) zero x at = let same : y ≡ x = cc in ap (λ z. z ∷ []) (sym same)
taken (y ∷ ys) (suc i) x at = ap (λ zs. y ∷ zs) (taken ys i x at)

-- the elements so far, and one more
pub one_key_more : {A : Type 0} (same : A → A → Bool) → ((a b : A) → same a b ≡ same b a) → (xs : List A) (i : ℕ) (x : A) → are_apart same xs ≡ true → slice_get xs i ≡ Some x → insert_key same (take i xs) x ≡ take (i + 1) xs
one_key_more same turned xs i x apart at =
    let next : suc i ≡ i + 1 = omega arith in
    ap (λ b. cond b (take i xs) (take i xs ++ x ∷ [])) (none_before same turned xs i x apart at)
    ∙ taken xs i x at
    ∙ ap (λ m. take m xs) next

-- elements made of others by a function that tells them apart
pub apart_by : {A B : Type 0} (same : A → A → Bool) (other : B → B → Bool) (f : A → B) → ((a b : A) → same a b ≡ other (f a) (f b)) → (xs : List A) → are_apart same xs ≡ are_apart other (map f xs)
apart_by {A} {B} same other f alike [] = refl
apart_by {A} {B} same other f alike (x ∷ xs) =
    let first = none xs in
    let rest = apart_by same other f alike xs in
    λ i. not (first i) && rest i
  where
    none : (ys : List A) → list_any (same x) ys ≡ list_any (other (f x)) (map f ys)
    none [] = refl
    none (y ∷ ys) = let head = alike x y in let rest = none ys in λ i. head i || rest i
