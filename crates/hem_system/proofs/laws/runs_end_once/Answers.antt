use Rattle.hem_system.proofs.Runs.{run_once}
use Rattle.hem_system.proofs.laws.runs_end_once.Goals as goal

pub returns : goal.returns
returns c p tree start one other h a b = run_once a b
