use Rattle.hem_regroup.specs.Ranks.{AreRankedTo}
use Rattle.hem_regroup.proofs.ranks.Ranks.of.Given as goal

abbrev pub invariant-loop-place : goal.invariant-loop-place
invariant-loop-place l = AreRankedTo l.initial.ranks.items l.place l.starts.items l.ranks.items
