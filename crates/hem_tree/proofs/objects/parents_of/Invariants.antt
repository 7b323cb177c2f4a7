use Rattle.hem_tree.proofs.Building.{ParentsSoFar}
use Rattle.hem_tree.proofs.objects.parents_of.Given as goal

abbrev pub invariant-loop-k : goal.invariant-loop-k
invariant-loop-k l = ParentsSoFar l.nodes l.k l.parents
