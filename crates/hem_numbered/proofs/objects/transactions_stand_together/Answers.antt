use Rattle.hem_numbered.proofs.Joined.{stand_together, are_connected, stand_thrice}
use Rattle.hem_numbered.proofs.objects.transactions_stand_together.Goals as goal

pub returns : goal.returns
returns c = record { together = stand_together; connected = are_connected; three = stand_thrice }
