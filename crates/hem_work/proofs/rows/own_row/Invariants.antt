use Rattle.std.proofs.Common.{◌≡◌}
use Rattle.std.specs.Prelude.{map}
use Rattle.hem_tree.specs.Tree.{below}
use Rattle.hem_work.specs.Work.{requests_of}
use Rattle.hem_work.proofs.rows.own_row.Given as goal

abbrev pub invariant-loop-o : goal.invariant-loop-o
invariant-loop-o l = l.row ≡ map (requests_of l.work l.line) (below l.o)
