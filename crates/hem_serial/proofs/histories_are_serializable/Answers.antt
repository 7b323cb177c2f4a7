use Rattle.hem_serial.proofs.Ordered.{serial, same_firings}
use Rattle.hem_serial.proofs.histories_are_serializable.Goals as goal

pub returns : goal.returns
returns c = record { serial = serial; same = same_firings }
