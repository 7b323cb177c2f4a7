use Rattle.hem_worker.proofs.Lengthened.{new-part, look-keeps, turn-lengthens, all-lengthen}
use Rattle.hem_worker.proofs.laws.turns_lengthen_parts.Goals as goal

pub returns : goal.returns
returns c = record { begins = new-part; looks = look-keeps; fires = turn-lengthens; all = all-lengthen }
