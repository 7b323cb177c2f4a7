use Rattle.std.proofs.Common.{◌≡◌, ◌≢◌, ◌<◌, ℕ, Some}
use Rattle.std.specs.Prelude.{slice_get}
use Rattle.hem_base.specs.declared.ids.ObjectId.{ObjectId}
use Rattle.hem_system.proofs.children.place_in.Given as goal

-- none of the objects so far is the one that is sought
abbrev pub invariant-loop-place : goal.invariant-loop-place
invariant-loop-place l = (i : ℕ) (id : ObjectId) → i < l.place → slice_get l.children i ≡ Some id → id.0 ≢ l.child.0
