use Rattle.hem_system.specs.State.{start}
use Rattle.hem_invariants.proofs.StatesKept.{step-formed, run-formed}
use Rattle.hem_invariants.proofs.Starts.{start-formed}
use Rattle.hem_invariants.proofs.reached_states_are_well_formed.Goals as goal

pub returns : goal.returns
returns c = record {
  start = start-formed;
  step = step-formed;
  reached = λ p tree work h now lawful tree_lawful work_lawful runs. run-formed p tree (start p tree work) h now lawful (start-formed p tree work lawful tree_lawful work_lawful) runs.leads;
}
