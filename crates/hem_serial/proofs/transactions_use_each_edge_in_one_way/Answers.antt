use Rattle.hem_serial.proofs.Ordered.{edges_one_way}
use Rattle.hem_serial.proofs.transactions_use_each_edge_in_one_way.Goals as goal

pub returns : goal.returns
returns c = edges_one_way
