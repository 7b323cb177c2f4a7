use Rattle.hem_regroup.specs.Graph.{members_before, IsBuilt}
use Rattle.hem_regroup.proofs.graph.Graph.of.Given as goal

abbrev pub invariant-loop-place : goal.invariant-loop-place
invariant-loop-place l = IsBuilt l.count (members_before l.place l.members) l.graph.nexts l.graph.counts.items l.last
