use Rattle.hem_worker.proofs.RoundsRun.{roomy-worker}
use Rattle.hem_worker.proofs.worker.Worker.reserve.Goals as goal

pub invariant_of-self : goal.invariant_of-self
invariant_of-self g c = roomy-worker c.self.inside.children c.self.inside.lines c.reserve_all.new.lines c.reserve_all.ensures.same c.self.invariant
