use Rattle.hem_emit.proofs.ReachedLines.{reached_lines}
use Rattle.hem_emit.proofs.laws.reached_lines_have_images.Goals as goal

pub returns : goal.returns
returns c = reached_lines
