use Rattle.hem_regroup.proofs.SameTurns.{same_turns}
use Rattle.hem_regroup.proofs.laws.neighbours_give_the_order.Goals as goal

pub returns : goal.returns
returns c members left whole = same_turns members left whole
