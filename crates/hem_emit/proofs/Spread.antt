-- Tests that all children pass, and with them all that a rule may send to.
use Rattle.std.proofs.Common.{◌≡◌, refl, ◌∙◌, ℕ, suc, ◌+◌, Bool, true, false, not, cond, List, [], ◌∷◌, map, Some}
use Rattle.std.specs.Prelude.{filter, slice_get}
use Rattle.std.specs.List.{list_all, flat_map, enumerate_from}
use Rattle.std.proofs.lemmas.List.Folds.{list_all-map}
use Rattle.hem_syntax.specs.declared.rule.SendTo.{SendTo}
use Rattle.hem_syntax.specs.declared.rule.SendTo.TheVariants as send
use Rattle.hem_rows.proofs.Choices.{both}
use Rattle.hem_emit.specs.Place.{Test, Place, Asker, fixed, holder, kids_at, others_at, is_named}
use Rattle.hem_emit.specs.Clauses.{entry_in, not_held_for}
use Rattle.hem_emit.specs.Actions.{targets_at}
use Rattle.hem_emit.proofs.Tests.{list_all-flat_map}
use Rattle.hem_emit.proofs.Named.{and_both}
use Rattle.hem_emit.proofs.Writes.{all_true}

-- what all of some elements pass
pub all_imply : {A : Type 0} (f g : A → Bool) (xs : List A) → ((x : A) → f x ≡ true → g x ≡ true) → list_all f xs ≡ true → list_all g xs ≡ true
all_imply f g [] imply all = refl
all_imply f g (x ∷ xs) imply all = let parts = both (f x) (list_all f xs) all in and_both _ _ (imply x parts.0) (all_imply f g xs imply parts.1)

pub all_kept : {A : Type 0} (f keep : A → Bool) (xs : List A) → list_all f xs ≡ true → list_all f (filter keep xs) ≡ true
all_kept f keep [] all = refl
all_kept f keep (x ∷ xs) all =
    let parts = both (f x) (list_all f xs) all in
    by_keep (keep x) parts.0 (all_kept f keep xs parts.1)
  where
    by_keep : (b : Bool) → f x ≡ true → list_all f (filter keep xs) ≡ true → list_all f (cond b (x ∷ filter keep xs) (filter keep xs)) ≡ true
    by_keep true one rest = and_both _ _ one rest
    by_keep false one rest = rest

pub all_from : (f : ℕ → Bool) (i : ℕ) (kids : List ℕ) → ((j c : ℕ) → slice_get kids j ≡ Some c → f c ≡ true) → list_all (λ (k : ℕ × ℕ). f k.1) (enumerate_from i kids) ≡ true
all_from f i [] each = refl
all_from f i (c ∷ kids) each = and_both _ _ (each 0 c refl) (all_from f (i + 1) kids (λ j x at. each (suc j) x at))

module _ (far : ℕ × ℕ → Bool) (at : Place) (kids_far : list_all far (kids_at at) ≡ true) where
  spread_far : (tests : ℕ × ℕ → Test → List Test) (entries : ℕ × ℕ → List Test) (kids : List (ℕ × ℕ)) → list_all far kids ≡ true → list_all (λ (x : (ℕ × ℕ) × List Test). far x.0) (flat_map (λ k. map (λ test. (k, tests k test)) (entries k)) kids) ≡ true
  spread_far tests entries kids all =
      list_all-flat_map (λ (x : (ℕ × ℕ) × List Test). far x.0) (λ k. map (λ test. (k, tests k test)) (entries k)) kids
      ∙ all_imply far (λ k. list_all (λ (x : (ℕ × ℕ) × List Test). far x.0) (map (λ test. (k, tests k test)) (entries k))) kids (λ k is. list_all-map (λ (x : (ℕ × ℕ) × List Test). far x.0) (λ test. (k, tests k test)) (entries k) ∙ all_true (λ test. far k) (entries k) (λ test. is)) all

  pub targets_far : (who : Asker) (to : SendTo) → list_all (λ (x : (ℕ × ℕ) × List Test). far x.0) (targets_at at who to) ≡ true
  targets_far (fixed me) (send.Kids set id v) = spread_far (λ k test. test ∷ []) (entry_in at set) (kids_at at) kids_far
  targets_far (holder side) (send.Kids set id v) = spread_far (λ k test. test ∷ []) (entry_in at set) (kids_at at) kids_far
  targets_far (fixed me) (send.Others set id v) = spread_far (λ k test. test ∷ []) (entry_in at set) (others_at at me) (all_kept far (λ k. not (is_named me k.0)) (kids_at at) kids_far)
  targets_far (holder side) (send.Others set id v) = spread_far (λ k test. not_held_for at side k ∷ test ∷ []) (entry_in at set) (kids_at at) kids_far
  targets_far (fixed me) send.Nothing = refl
  targets_far (fixed me) (send.Me id v) = refl
  targets_far (fixed me) (send.Parent id v) = refl
  targets_far (holder side) send.Nothing = refl
  targets_far (holder side) (send.Me id v) = refl
  targets_far (holder side) (send.Parent id v) = refl
