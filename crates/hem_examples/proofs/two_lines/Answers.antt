use Rattle.std.specs.Prelude.{refl}
use Rattle.hem_serial.proofs.Ordered.{same_firings}
use Rattle.hem_examples.specs.Msi.{msi}
use Rattle.hem_examples.specs.TwoLines.{two_lines}
use Rattle.hem_examples.proofs.Accepted.{msi_is}
use Rattle.hem_examples.proofs.LateTree.{lawful}
use Rattle.hem_examples.proofs.Serial.{serial}
use Rattle.hem_examples.proofs.two_lines.Goals as goal

pub returns : goal.returns
returns c = record {
  runs = record { leads = refl };
  numbered = refl;
  by_sender = refl;
  ordered = refl;
  regrouped = refl;
  serial = serial msi two_lines refl refl;
  same = same_firings msi two_lines.tree two_lines.work two_lines.history two_lines.end (record { protocol = msi_is.protocol; disciplined = msi_is.disciplined; shape = lawful.shape; runs = record { leads = refl } });
}
