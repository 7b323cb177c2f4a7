use Rattle.hem_emit.proofs.Stepped.{can_written, leads_written}
use Rattle.hem_emit.proofs.written.written_rules_step_as_firings_do.Goals as goal

pub returns : goal.returns
returns c = record { can = can_written; leads = leads_written }
