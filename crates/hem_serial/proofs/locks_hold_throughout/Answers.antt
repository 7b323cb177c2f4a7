use Rattle.hem_serial.proofs.Prefixes.{locks_throughout}
use Rattle.hem_serial.proofs.locks_hold_throughout.Goals as goal

pub returns : goal.returns
returns c = locks_throughout
