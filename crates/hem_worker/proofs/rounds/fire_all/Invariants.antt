use Rattle.hem_worker.proofs.RoundsRun.{IsRoundSoFar}
use Rattle.hem_worker.proofs.rounds.fire_all.Given as goal

abbrev pub invariant-loop-at : goal.invariant-loop-at
invariant-loop-at g l = IsRoundSoFar l.p l.place.kind l.place.self_count l.place.object l.children l.burst.most l.fired l.at l.fn.lines l.lines
