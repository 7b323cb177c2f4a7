use Rattle.hem_system.proofs.Takers.{taker_is, sender_is}
use Rattle.hem_system.proofs.laws.lists_have_one_taker_and_sender.Goals as goal

pub returns : goal.returns
returns c = record { taker = taker_is; sender = sender_is }
