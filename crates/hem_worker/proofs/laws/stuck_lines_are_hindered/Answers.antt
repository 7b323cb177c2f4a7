use Rattle.hem_worker.proofs.Stuck.{stuck-hindered}
use Rattle.hem_worker.proofs.laws.stuck_lines_are_hindered.Goals as goal

pub returns : goal.returns
returns c = stuck-hindered
