use Rattle.hem_system.proofs.TakenHeads.{own_effect-enough}
use Rattle.hem_system.proofs.laws.firings_look_at_taken_heads.Goals as goal

pub returns : goal.returns
returns c = own_effect-enough
