use Rattle.hem_check.proofs.Clauses.{exact}
use Rattle.hem_check.proofs.laws.first_broken_rules_are_exact.Goals as goal

pub returns : goal.returns
returns c = exact
