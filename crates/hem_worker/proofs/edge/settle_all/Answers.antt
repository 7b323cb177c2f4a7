use Rattle.std.proofs.Common.{rules}
use Rattle.hem_worker.proofs.Settled.{pair-more, pairs-done}
use Rattle.hem_worker.proofs.edge.settle_all.Goals as goal

pub loop-line-preserved : goal.loop-line-preserved
loop-line-preserved g c = pair-more _ c.loop-line.line _ _ _ _ _ _ c.loop-line.invariant c.settle_on.ensures

pub returns : goal.returns
returns g c = pairs-done _ c.loop-line.line _ _ _ _ (search rules) c.loop-line.invariant
