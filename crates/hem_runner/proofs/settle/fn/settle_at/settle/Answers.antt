use Rattle.hem_runner.proofs.Settling.{settled-together}
use Rattle.hem_runner.proofs.settle.fn.settle_at.settle.Goals as goal

pub returns : goal.returns
returns g c =
    let is = c.settle_edge.ensures in
    settled-together _ _ _ _ _ is.settled is.upper is.lower is.upper_parts is.lower_parts is.upper_channels is.lower_channels
