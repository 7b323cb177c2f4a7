use Rattle.hem_rows.proofs.Rows.{of_row}
use Rattle.hem_rows.proofs.rules_have_rows.Goals as goal

pub returns : goal.returns
returns c = of_row
