use Rattle.hem_examples.proofs.Accepted.{msi_is}
use Rattle.hem_examples.proofs.msi_is_accepted.Goals as goal

pub returns : goal.returns
returns c = msi_is
