-- Children with their places, one by one.
use Rattle.std.proofs.Common.{◌≡◌, refl, ap, ◌∙◌, ℕ, zero, suc, ◌+◌, arith, List, [], ◌∷◌, ◌++◌, map, take}
use Rattle.std.specs.Prelude.{slice_get, Some}
use Rattle.std.specs.List.{enumerate_from}
use Rattle.hem_base.specs.declared.ids.ObjectId.{ObjectId}
use Rattle.hem_translate.specs.Kids.{numbers_of}

numbers_from : (n : ℕ) (xs : List ℕ) → numbers_of (enumerate_from n xs) ≡ xs
numbers_from n [] = refl
numbers_from n (x ∷ xs) = ap (λ ys. x ∷ ys) (numbers_from (n + 1) xs)

-- the numbers of children with their places
pub numbers_again : (xs : List ℕ) → numbers_of (enumerate_from 0 xs) ≡ xs
numbers_again xs = numbers_from 0 xs

more_from : (n : ℕ) (xs : List ObjectId) (i : ℕ) (x : ObjectId) → slice_get xs i ≡ Some x → enumerate_from n (map (λ c. c.0) (take (suc i) xs)) ≡ enumerate_from n (map (λ c. c.0) (take i xs)) ++ (n + i, x.0) ∷ []
more_from n [] i x at = cc
more_from n (y ∷ ys) zero x at =
    let same : y ≡ x = cc in
    let here : n ≡ n + 0 = omega arith in
    (λ j. (here j, (same j).0) ∷ [])
more_from n (y ∷ ys) (suc i) x at =
    let next : (n + 1) + i ≡ n + suc i = omega arith in
    let rest = more_from (n + 1) ys i x at in
    ap (λ zs. (n, y.0) ∷ zs) (rest ∙ ap (λ m. enumerate_from (n + 1) (map (λ c. c.0) (take i ys)) ++ (m, x.0) ∷ []) next)

-- one child more
pub one_kid_more : (xs : List ObjectId) (i : ℕ) (x : ObjectId) → slice_get xs i ≡ Some x → enumerate_from 0 (map (λ c. c.0) (take (i + 1) xs)) ≡ enumerate_from 0 (map (λ c. c.0) (take i xs)) ++ (i, x.0) ∷ []
one_kid_more xs i x at =
    let same : 0 + i ≡ i = omega arith in
    let next : i + 1 ≡ suc i = omega arith in
    ap (λ m. enumerate_from 0 (map (λ c. c.0) (take m xs))) next ∙ more_from 0 xs i x at ∙ ap (λ m. enumerate_from 0 (map (λ c. c.0) (take i xs)) ++ (m, x.0) ∷ []) same
