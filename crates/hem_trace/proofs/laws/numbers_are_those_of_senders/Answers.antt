use Rattle.hem_trace.proofs.Senders.{numbers-by-senders}
use Rattle.hem_trace.proofs.SendersOnce.{start-channels, numbers-once}
use Rattle.hem_trace.proofs.laws.numbers_are_those_of_senders.Goals as goal

pub returns : goal.returns
returns c = record { are = numbers-by-senders; start = start-channels; once = numbers-once }
