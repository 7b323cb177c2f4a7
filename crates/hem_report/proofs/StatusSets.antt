-- The statuses of a set, from a status on.
use Rattle.std.proofs.Common.{◌≡◌, refl, ◌∙◌, ap, ℕ, ◌+◌, ◌<◌, zero, suc, add-one, ◌∷◌, true, false, drop, arith}
use Rattle.std.specs.Prelude.{filter}
use Rattle.hem_base.specs.Sets.{has_bit}
use Rattle.hem_base.specs.declared.ids.StatusSet.{StatusSet}
use Rattle.hem_object.specs.Guard.{has}
use Rattle.hem_abstract.specs.Abstract.{status, all_statuses}

-- the next status
next_status : (k : ℕ) → k < 8 → drop k all_statuses ≡ status k ∷ drop (suc k) all_statuses
next_status zero h = refl
next_status (suc zero) h = refl
next_status (suc (suc zero)) h = refl
next_status (suc (suc (suc zero))) h = refl
next_status (suc (suc (suc (suc zero)))) h = refl
next_status (suc (suc (suc (suc (suc zero))))) h = refl
next_status (suc (suc (suc (suc (suc (suc zero)))))) h = refl
next_status (suc (suc (suc (suc (suc (suc (suc zero))))))) h = refl
next_status (suc (suc (suc (suc (suc (suc (suc (suc k)))))))) h = absurd (omega arith)

-- a status that is in the set
pub status_in : (set : StatusSet) (k : ℕ) → k < 8 → has_bit set.0 k ≡ true → filter (has set) (drop k all_statuses) ≡ status k ∷ filter (has set) (drop (k + 1) all_statuses)
status_in set k h is = ap (filter (has set)) (next_status k h) ∙ rw (is, add-one) refl

-- a status that isn't
pub status_out : (set : StatusSet) (k : ℕ) → k < 8 → has_bit set.0 k ≡ false → filter (has set) (drop k all_statuses) ≡ filter (has set) (drop (k + 1) all_statuses)
status_out set k h is = ap (filter (has set)) (next_status k h) ∙ rw (is, add-one) refl
