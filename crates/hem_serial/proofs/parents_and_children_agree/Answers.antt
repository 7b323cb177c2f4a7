use Rattle.hem_serial.proofs.Ordered.{agree}
use Rattle.hem_serial.proofs.parents_and_children_agree.Goals as goal

pub returns : goal.returns
returns c = agree
