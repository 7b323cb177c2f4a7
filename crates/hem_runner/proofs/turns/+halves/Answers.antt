use Rattle.hem_runner.proofs.Halves.{turned_halves}
use Rattle.hem_runner.proofs.turns.+halves.Goals as goal

pub turn_all-returns : goal.turn_all-returns
turn_all-returns g t c = turned_halves g.F.Fn c.args.turn.now _ _ _ _ _ _ _ _ c.saturating_add.ensures c.split_at_mut-front.ensures.value c.both_halves-a.ensures.front c.both_halves-a.ensures.back
