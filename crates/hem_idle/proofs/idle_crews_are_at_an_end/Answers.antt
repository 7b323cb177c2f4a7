use Rattle.hem_idle.proofs.End.{idle-ended}
use Rattle.hem_idle.proofs.idle_crews_are_at_an_end.Goals as goal

pub returns : goal.returns
returns c = idle-ended
