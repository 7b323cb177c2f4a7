use Rattle.hem_runner.proofs.Shares.{round-is-turn}
use Rattle.hem_runner.proofs.rounds.fn.round_all.turn.Goals as goal

pub returns : goal.returns
returns g c = round-is-turn _ _ _ _ _ c.requires.0 c.round.ensures.fired c.round.ensures.stuck c.round.ensures.looked c.round.ensures.channels c.round.ensures.parts
