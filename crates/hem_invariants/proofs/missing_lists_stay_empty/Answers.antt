use Rattle.hem_system.specs.State.{start}
use Rattle.hem_invariants.proofs.Starts.{start-formed}
use Rattle.hem_invariants.proofs.Missing.{start-missing, step-missing, run-missing}
use Rattle.hem_invariants.proofs.missing_lists_stay_empty.Goals as goal

pub returns : goal.returns
returns c = record {
  start = start-missing;
  step = step-missing;
  reached = λ p tree work h now lawful tree_lawful work_lawful runs. run-missing p tree (start p tree work) h now lawful tree_lawful (start-formed p tree work lawful tree_lawful work_lawful) (start-missing p tree work work_lawful) runs.leads;
}
