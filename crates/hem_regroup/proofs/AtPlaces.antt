-- What stands at a place of a list.
use Rattle.std.proofs.Common.{◌≡◌, ap, ◌∙◌, subst, ℕ, zero, suc, ◌+◌, ◌<◌, List, [], ◌∷◌, ◌++◌, length, take, drop, get_or, Some, add-one, drop-cons, arith}
use Rattle.std.specs.Prelude.{slice_get}
use Rattle.std.proofs.Math.Seq.{take-suc}
use Rattle.std.proofs.lemmas.Option.{get_or_from_slice_get, slice_get_within}
use Rattle.hem_trace.specs.Blocks.{Each}

pub drop_there : {A : Type 0} (xs : List A) (k : ℕ) (x : A) → slice_get xs k ≡ Some x → drop k xs ≡ x ∷ drop (k + 1) xs
drop_there xs k x there =
    drop-cons xs k x (slice_get_within xs k x there)
    ∙ ap (λ y. y ∷ drop (suc k) xs) (get_or_from_slice_get xs k x x there)
    ∙ ap (λ n. x ∷ drop n xs) (let same : suc k ≡ k + 1 = omega arith in same)

pub take_there : {A : Type 0} (xs : List A) (k : ℕ) (x : A) → slice_get xs k ≡ Some x → take (k + 1) xs ≡ take k xs ++ x ∷ []
take_there xs k x there =
    ap (λ n. take n xs) (add-one k)
    ∙ take-suc xs k x (slice_get_within xs k x there)
    ∙ ap (λ y. take k xs ++ y ∷ []) (get_or_from_slice_get xs k x x there)

pub each_there : {A : Type 0} (P : A → Type 0) (xs : List A) (k : ℕ) (x : A) → slice_get xs k ≡ Some x → Each P xs → P x
each_there P [] k x there all = absurd cc
each_there P (y ∷ xs) zero x there all = let same : y ≡ x = cc in subst P same all.0
each_there P (y ∷ xs) (suc k) x there all = each_there P xs k x there all.1

pub each_inside : {A : Type 0} (P : A → Type 0) (xs : List A) (k : ℕ) (d : A) → k < length xs → Each P xs → P (get_or xs k d)
each_inside P [] k d within all = absurd (omega arith)
each_inside P (x ∷ xs) zero d within all = all.0
each_inside P (x ∷ xs) (suc k) d within all = each_inside P xs k d (omega arith) all.1
