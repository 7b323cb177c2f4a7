use Rattle.hem_abstract.proofs.Exact.{guard-exact}
use Rattle.hem_abstract.proofs.laws.abstract_guards_are_exact.Goals as goal

pub returns : goal.returns
returns c = guard-exact
