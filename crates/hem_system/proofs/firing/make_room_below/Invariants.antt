use Rattle.std.proofs.Common.{◌≡◌, ℕ, Some, true}
use Rattle.std.specs.Prelude.{slice_get}
use Rattle.hem_system.specs.declared.cell.Cell.{Cell as Kept}
use Rattle.hem_system.specs.State.{reaches}
use Rattle.hem_system.specs.Cells.{line_of}
use Rattle.hem_system.specs.Lists.{is_met, HasRoom}
use Rattle.hem_system.proofs.firing.make_room_below.Given as goal

-- the children so far have room, and nothing is changed
abbrev pub invariant-loop-place : goal.invariant-loop-place
invariant-loop-place l = record {
  same : line_of l.cells ≡ line_of l.fn.cells;
  room : (k : ℕ) (cell : Kept) → is_met l.tree l.fn.firing.object.0 l.place k ≡ true → slice_get l.cells k ≡ Some cell → HasRoom (reaches l.tree l.fn.firing l.to k) cell;
}
