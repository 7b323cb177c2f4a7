use Rattle.std.proofs.Common.{◌≡◌, ◌++◌}
use Rattle.std.specs.Prelude.{flat_map, codes}
use Rattle.hem_tree.specs.Tree.{below}
use Rattle.hem_worktext.specs.TreeText.{object_text}
use Rattle.hem_worktext.proofs.tree.tree_text.Given as goal

abbrev pub invariant-loop-o : goal.invariant-loop-o
invariant-loop-o l = l.output ≡ codes "tree " ++ flat_map (object_text l.tree) (below l.o)
