use Rattle.hem_ends.specs.Ends.{goes_down, IsKidGiven}
use Rattle.hem_ends.proofs.SoFar.{IsSoFar}
use Rattle.hem_ends.proofs.kids.put_to_all.Given as goal

abbrev pub invariant-loop-place : goal.invariant-loop-place
invariant-loop-place g l = IsSoFar (λ k. IsKidGiven (goes_down l.to k) l.c) l.place l.fn.kids l.kids
