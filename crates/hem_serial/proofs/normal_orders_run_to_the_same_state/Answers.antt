use Rattle.hem_serial.proofs.Ordered.{normal_runs, normal_same}
use Rattle.hem_serial.proofs.normal_orders_run_to_the_same_state.Goals as goal

pub returns : goal.returns
returns c = record { runs = normal_runs; same = normal_same }
