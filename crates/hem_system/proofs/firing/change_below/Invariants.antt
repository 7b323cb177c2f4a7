use Rattle.std.proofs.Common.{◌≡◌, ℕ, Some, true, false}
use Rattle.std.specs.Prelude.{slice_get}
use Rattle.hem_tree.specs.Tree.{is_child}
use Rattle.hem_system.specs.declared.cell.Cell.{Cell as Kept}
use Rattle.hem_system.specs.State.{map_each, reaches}
use Rattle.hem_system.specs.Cells.{line_of}
use Rattle.hem_system.specs.Lists.{is_met, so_far, HasRoom}
use Rattle.hem_system.proofs.firing.change_below.Given as goal

-- the children so far are changed, and the others have room
abbrev pub invariant-loop-place : goal.invariant-loop-place
invariant-loop-place l = record {
  goes_on : line_of l.cells ≡ map_each (so_far l.tree l.firing l.outs l.place) 0 (line_of l.fn.cells);
  room : (k : ℕ) (cell : Kept) → is_child l.tree k l.firing.object.0 ≡ true → is_met l.tree l.firing.object.0 l.place k ≡ false → slice_get l.cells k ≡ Some cell → HasRoom (reaches l.tree l.firing l.outs.to k) cell;
}
