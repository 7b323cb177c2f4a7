use Rattle.std.specs.Prelude.{refl}
use Rattle.hem_examples.specs.Widest.{widest}
use Rattle.hem_examples.proofs.Accepted.{whole}
use Rattle.hem_examples.proofs.widest_is_disciplined.Goals as goal

pub returns : goal.returns
returns c = whole widest refl refl refl
