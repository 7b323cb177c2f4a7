use Rattle.std.specs.Prelude.{refl}
use Rattle.hem_rows.proofs.Templated.{from_lists}
use Rattle.hem_examples.specs.Templates.{root_templates, mid_templates, leaf_templates}
use Rattle.hem_examples.specs.UnstableEviction.{unstable}
use Rattle.hem_examples.proofs.stability_is_needed.Goals as goal

pub returns : goal.returns
returns c = record { templates = from_lists unstable root_templates mid_templates leaf_templates refl refl refl; broken = refl; runs = record { leads = refl }; stuck = refl }
