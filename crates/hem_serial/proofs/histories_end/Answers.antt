use Rattle.hem_serial.proofs.Prefixes.{few_firings}
use Rattle.hem_serial.proofs.histories_end.Goals as goal

pub returns : goal.returns
returns c = few_firings
