use Rattle.hem_examples.proofs.ShippedTexts.{msi_shipped, mesi_shipped, msi_noninclusive_shipped, mesi_noninclusive_shipped}
use Rattle.hem_examples.proofs.shipped_texts_are_these_protocols.Goals as goal

pub returns : goal.returns
returns c = record { msi = msi_shipped; mesi = mesi_shipped; noninclusive = msi_noninclusive_shipped; mesi_noninclusive = mesi_noninclusive_shipped }
