use Rattle.hem_serial.proofs.Ordered.{together, three}
use Rattle.hem_serial.proofs.transactions_stand_together_at_each_object.Goals as goal

pub returns : goal.returns
returns c = record { together = together; three = three }
