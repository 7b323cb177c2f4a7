-- Lists with one element set, or another last element.
use Rattle.std.proofs.Common.{◌≡◌, ◌∙◌, refl, sym, ap, arith, ℕ, suc, ◌-◌, List, [], ◌∷◌, ◌++◌, length, Some}
use Rattle.std.specs.Prelude.{slice_get, slice_set}
use Rattle.hem_syntax.specs.Names.{set_last}
use Rattle.std.proofs.lemmas.List.{set-get_or}
use Rattle.std.proofs.lemmas.Option.{get_or_from_slice_get}

-- an element set to itself
pub set_get_same : {A : Type 0} (xs : List A) (i : ℕ) (x : A) → slice_get xs i ≡ Some x → slice_set xs i x ≡ xs
set_get_same xs i x at = ap (slice_set xs i) (sym (get_or_from_slice_get xs i x x at)) ∙ set-get_or xs i x

-- a list with another last element
length_more : {X : Type 0} (xs : List X) (y : X) → length (xs ++ y ∷ []) ≡ suc (length xs)
length_more [] y = refl
length_more (x ∷ xs) y = ap suc (length_more xs y)

last_place : {X : Type 0} (xs : List X) (y : X) → length (xs ++ y ∷ []) - 1 ≡ length xs
last_place [] y = refl
last_place (x ∷ xs) y = let e = last_place xs y in omega (arith, length_more xs y)

set_at : {X : Type 0} (xs : List X) (y z : X) → slice_set (xs ++ y ∷ []) (length xs) z ≡ xs ++ z ∷ []
set_at [] y z = refl
set_at (x ∷ xs) y z = ap (λ ys. x ∷ ys) (set_at xs y z)

pub set_of : {X : Type 0} (xs : List X) (y z : X) → set_last (xs ++ y ∷ []) z ≡ xs ++ z ∷ []
set_of xs y z = ap (λ k. slice_set (xs ++ y ∷ []) k z) (last_place xs y) ∙ set_at xs y z
