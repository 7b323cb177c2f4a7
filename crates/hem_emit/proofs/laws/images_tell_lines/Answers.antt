use Rattle.hem_emit.proofs.Unique.{lines_same}
use Rattle.hem_emit.proofs.laws.images_tell_lines.Goals as goal

pub returns : goal.returns
returns c = lines_same
