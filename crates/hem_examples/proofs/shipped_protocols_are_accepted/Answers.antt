use Rattle.hem_examples.proofs.Shipped.{mesi_is, msi_noninclusive_is, mesi_noninclusive_is}
use Rattle.hem_examples.proofs.shipped_protocols_are_accepted.Goals as goal

pub returns : goal.returns
returns c = record { mesi = mesi_is; noninclusive = msi_noninclusive_is; mesi_noninclusive = mesi_noninclusive_is }
