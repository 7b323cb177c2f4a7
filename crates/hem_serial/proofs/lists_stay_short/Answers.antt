use Rattle.hem_serial.proofs.Prefixes.{short_throughout}
use Rattle.hem_serial.proofs.lists_stay_short.Goals as goal

pub returns : goal.returns
returns c = short_throughout
