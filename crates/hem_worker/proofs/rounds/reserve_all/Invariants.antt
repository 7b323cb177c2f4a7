use Rattle.hem_worker.proofs.Rooms.{IsRoomSoFar}
use Rattle.hem_worker.proofs.rounds.reserve_all.Given as goal

abbrev pub invariant-loop-at : goal.invariant-loop-at
invariant-loop-at g l = IsRoomSoFar l.burst l.at l.fn.lines l.lines
