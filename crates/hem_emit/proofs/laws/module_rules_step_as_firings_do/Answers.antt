use Rattle.hem_emit.proofs.Steps.{step_exact}
use Rattle.hem_emit.proofs.laws.module_rules_step_as_firings_do.Goals as goal

pub returns : goal.returns
returns c = step_exact
