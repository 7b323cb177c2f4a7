use Rattle.std.specs.Prelude.{refl}
use Rattle.hem_examples.specs.LateHit.{late_hit}
use Rattle.hem_examples.specs.TwoLines.{two_lines}
use Rattle.hem_examples.proofs.Accepted.{through}
use Rattle.hem_examples.proofs.LateTree.{lawful}
use Rattle.hem_examples.proofs.worked_histories_go_through.Goals as goal

pub returns : goal.returns
returns c = record { late = through late_hit lawful.shape refl refl; two = through two_lines lawful.shape refl refl }
