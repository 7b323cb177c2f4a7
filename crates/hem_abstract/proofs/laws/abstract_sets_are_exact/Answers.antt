use Rattle.hem_abstract.proofs.AfterExact.{after-exact}
use Rattle.hem_abstract.proofs.laws.abstract_sets_are_exact.Goals as goal

pub returns : goal.returns
returns c = after-exact
