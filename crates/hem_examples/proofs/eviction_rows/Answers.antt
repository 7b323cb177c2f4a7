use Rattle.std.specs.Prelude.{refl}
use Rattle.hem_examples.proofs.eviction_rows.Goals as goal

pub returns : goal.returns
returns c = record { kept = refl; broken = refl }
