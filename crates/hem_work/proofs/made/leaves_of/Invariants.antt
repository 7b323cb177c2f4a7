use Rattle.std.proofs.Common.{◌≡◌}
use Rattle.std.specs.Prelude.{filter}
use Rattle.hem_tree.specs.Tree.{below}
use Rattle.hem_work.specs.Building.{is_leaf}
use Rattle.hem_work.proofs.made.leaves_of.Given as goal

abbrev pub invariant-loop-o : goal.invariant-loop-o
invariant-loop-o l = l.leaves ≡ filter (is_leaf l.tree) (below l.o)
