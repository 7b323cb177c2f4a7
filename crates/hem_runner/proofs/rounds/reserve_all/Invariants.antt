use Rattle.hem_worker.proofs.SoFar.{IsSoFar}
use Rattle.hem_runner.specs.Rounds.{IsRoomier}
use Rattle.hem_runner.proofs.rounds.reserve_all.Given as goal

abbrev pub invariant-loop-at : goal.invariant-loop-at
invariant-loop-at g l = IsSoFar (λ o. IsRoomier l.burst) l.at l.fn.crew l.crew
