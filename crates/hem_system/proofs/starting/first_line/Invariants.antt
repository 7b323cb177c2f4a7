use Rattle.std.proofs.Common.{◌≡◌, take}
use Rattle.hem_work.specs.Work.{requests_of}
use Rattle.hem_system.specs.State.{map_each, first_cell}
use Rattle.hem_system.specs.Cells.{line_of}
use Rattle.hem_system.proofs.starting.first_line.Given as goal

-- the objects so far are as at the start
abbrev pub invariant-loop-object : goal.invariant-loop-object
invariant-loop-object l = line_of l.cells ≡ map_each (first_cell l.p l.tree (requests_of l.work l.line.0)) 0 (take l.object l.tree)
