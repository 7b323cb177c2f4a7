use Rattle.hem_turns.proofs.Along.{IsUnderWay}
use Rattle.hem_turns.proofs.online.OnLine.fire_many.Given as goal

abbrev pub invariant-loop-fired : goal.invariant-loop-fired
invariant-loop-fired g l = IsUnderWay l.p l.place.kind l.place.self_count l.line l.place.object l.children l.fired l.fn.self l.self
