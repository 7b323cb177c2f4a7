use Rattle.hem_base.specs.Sets.{has_bit}
use Rattle.hem_ends.specs.Ends.{is_place, IsKidTaken}
use Rattle.hem_ends.proofs.SoFar.{IsSoFar}
use Rattle.hem_ends.proofs.kids.take_from_all.Given as goal

abbrev pub invariant-loop-place : goal.invariant-loop-place
invariant-loop-place g l = IsSoFar (λ k. IsKidTaken (is_place l.me k) (has_bit l.responses.0 k)) l.place l.fn.kids l.kids
