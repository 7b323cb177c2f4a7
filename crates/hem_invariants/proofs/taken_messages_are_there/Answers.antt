use Rattle.hem_invariants.proofs.Taken.{taken-there}
use Rattle.hem_invariants.proofs.taken_messages_are_there.Goals as goal

pub returns : goal.returns
returns c = taken-there
