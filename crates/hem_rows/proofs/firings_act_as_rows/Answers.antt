use Rattle.hem_rows.proofs.Acts.{acts_by_template}
use Rattle.hem_rows.proofs.firings_act_as_rows.Goals as goal

pub returns : goal.returns
returns c = acts_by_template
