use Rattle.hem_rows.proofs.Templated.{from_lists}
use Rattle.hem_rows.proofs.lists_of_templates_are_enough.Goals as goal

pub returns : goal.returns
returns c = from_lists
