use Rattle.hem_serial.proofs.Ordered.{connected}
use Rattle.hem_serial.proofs.objects_of_transactions_are_connected.Goals as goal

pub returns : goal.returns
returns c = connected
