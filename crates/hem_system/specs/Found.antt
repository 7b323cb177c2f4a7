-- The place of an object among others.
use Rattle.std.specs.Prelude.{ℕ, ◌≡◌, ◌≢◌, List, Option, Some, None, slice_get}
use Rattle.hem_base.specs.declared.ids.ObjectId.{ObjectId}

-- an object stands at the place, or at none
abbrev pub IsPlace : List ObjectId → ℕ → Option ℕ → Type 0
IsPlace ids k None = (i : ℕ) (id : ObjectId) → slice_get ids i ≡ Some id → id.0 ≢ k
IsPlace ids k (Some i) = (id : ObjectId) × (slice_get ids i ≡ Some id) × (id.0 ≡ k)
