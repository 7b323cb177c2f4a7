use Rattle.hem_shape.proofs.Phases.{phases_go_on}
use Rattle.hem_shape.proofs.firings_keep_the_phases.Goals as goal

pub returns : goal.returns
returns c = phases_go_on
