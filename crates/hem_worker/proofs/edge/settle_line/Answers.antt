use Rattle.hem_worker.proofs.Settled.{line-settled}
use Rattle.hem_worker.proofs.edge.settle_line.Goals as goal

pub returns : goal.returns
returns g c = rw (← c.high.view_is, ← c.low.view_is) (line-settled c.args.place _ _ c.settle_edge.new.upper c.settle_edge.new.lower c.settle_edge.ensures.edge c.settle_edge.ensures.up_requests c.settle_edge.ensures.up_responses c.settle_edge.ensures.down)
