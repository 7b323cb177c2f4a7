-- What each number below a bound gives, and one more.
use Rattle.std.proofs.Common.{◌≡◌, refl, ap, ◌∙◌, ℕ, suc, ◌+◌, arith, List, [], ◌∷◌, ◌++◌, length, map, Some}
use Rattle.std.specs.Prelude.{slice_get}
use Rattle.std.specs.List.{flat_map, enumerate_from}
use Rattle.hem_tree.specs.Tree.{below}
use Rattle.hem_translate.proofs.Children.{below_first}

both_parts : {A B : Type 0} (f : A → List B) (xs : List A) (x : A) → flat_map f (xs ++ x ∷ []) ≡ flat_map f xs ++ f x
both_parts f [] x = append_nil (f x)
  where
    append_nil : {B : Type 0} (ys : List B) → ys ++ [] ≡ ys
    append_nil [] = refl
    append_nil (y ∷ ys) = ap (λ zs. y ∷ zs) (append_nil ys)
both_parts f (y ∷ ys) x = ap (λ zs. f y ++ zs) (both_parts f ys x) ∙ grouped (f y) (flat_map f ys) (f x)
  where
    grouped : {B : Type 0} (a b c : List B) → a ++ (b ++ c) ≡ (a ++ b) ++ c
    grouped [] b c = refl
    grouped (z ∷ a) b c = ap (λ zs. z ∷ zs) (grouped a b c)

-- one more
pub one_object_more : {B : Type 0} (f : ℕ → List B) (o : ℕ) → flat_map f (below (o + 1)) ≡ flat_map f (below o) ++ f o
one_object_more f o =
    let next : o + 1 ≡ suc o = omega arith in
    ap (λ n. flat_map f (below n)) next ∙ both_parts f (below o) o

fused : {B : Type 0} (f : ℕ → List B) (xs : List ℕ) → flat_map f (map suc xs) ≡ flat_map (λ i. f (suc i)) xs
fused f [] = refl
fused f (x ∷ xs) = ap (λ ys. f (suc x) ++ ys) (fused f xs)

-- what each number below the length gives, and what each element with its number does
pub spread_below : {A B : Type 0} (f : ℕ → List B) (g : ℕ × A → List B) (n : ℕ) (xs : List A) → ((i : ℕ) (x : A) → slice_get xs i ≡ Some x → f i ≡ g (n + i, x)) → flat_map f (below (length xs)) ≡ flat_map g (enumerate_from n xs)
spread_below f g n [] alike = refl
spread_below f g n (x ∷ xs) alike =
    let many : length (x ∷ xs) ≡ suc (length xs) = omega arith in
    let here : n + 0 ≡ n = omega arith in
    let first = alike 0 x refl ∙ ap (λ m. g (m, x)) here in
    let rest = spread_below (λ i. f (suc i)) g (n + 1) xs (λ i y at. let next : n + suc i ≡ (n + 1) + i = omega arith in alike (suc i) y at ∙ ap (λ m. g (m, y)) next) in
    ap (flat_map f) (ap below many ∙ below_first (length xs))
    ∙ ap (λ ys. f 0 ++ ys) (fused f (below (length xs)))
    ∙ (λ i. first i ++ rest i)
