use Rattle.hem_tree.specs.Raw.{tree_of}
use Rattle.hem_tree.proofs.Building.{ObjectsSoFar}
use Rattle.hem_tree.proofs.objects.objects_of.Given as goal

abbrev pub invariant-loop-k : goal.invariant-loop-k
invariant-loop-k l = ObjectsSoFar (tree_of l.nodes) l.k l.objects
