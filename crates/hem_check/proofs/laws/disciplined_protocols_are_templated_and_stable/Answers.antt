use Rattle.hem_check.proofs.Clauses.{templated, stable}
use Rattle.hem_check.proofs.laws.disciplined_protocols_are_templated_and_stable.Goals as goal

pub returns : goal.returns
returns c = record { templates = templated; stable = stable }
