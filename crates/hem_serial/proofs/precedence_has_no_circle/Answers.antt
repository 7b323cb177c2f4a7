use Rattle.hem_serial.proofs.Ordered.{ranks}
use Rattle.hem_serial.proofs.precedence_has_no_circle.Goals as goal

pub returns : goal.returns
returns c = ranks
