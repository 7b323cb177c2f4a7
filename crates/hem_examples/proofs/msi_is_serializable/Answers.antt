use Rattle.hem_serial.proofs.Ordered.{serial, same_firings}
use Rattle.hem_examples.specs.Msi.{msi}
use Rattle.hem_examples.proofs.Accepted.{msi_is}
use Rattle.hem_examples.proofs.msi_is_serializable.Goals as goal

pub returns : goal.returns
returns c = record {
  serial = λ tree work h s lawful runs. serial msi tree work h s (record { protocol = msi_is.protocol; disciplined = msi_is.disciplined; shape = lawful; runs = runs });
  same = λ tree work h s lawful runs. same_firings msi tree work h s (record { protocol = msi_is.protocol; disciplined = msi_is.disciplined; shape = lawful; runs = runs });
}
