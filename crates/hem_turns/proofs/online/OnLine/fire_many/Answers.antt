use Rattle.std.proofs.Common.{rules}
use Rattle.hem_turns.proofs.Along.{one-turn}
use Rattle.hem_turns.proofs.online.OnLine.fire_many.Goals as goal

pub loop-fired-preserved : goal.loop-fired-preserved
loop-fired-preserved g c = one-turn _ _ _ _ _ _ _ _ _ _ c.loop-fired.invariant (search rules)
