use Rattle.std.proofs.Common.{arith}
use Rattle.hem_worker.proofs.SoFar.{one-more, all-done}
use Rattle.hem_runner.specs.Rounds.{IsRoomier}
use Rattle.hem_runner.proofs.rounds.reserve_all.Goals as goal

pub loop-at-preserved : goal.loop-at-preserved
loop-at-preserved g c = one-more (λ o. IsRoomier c.args.burst) c.loop-at.at c.args.crew.now c.loop-at.crew c.reserve_at.new.crew c.loop-at.invariant c.in_ok-reserve_at.ensures

pub returns : goal.returns
returns g c = all-done (λ o. IsRoomier c.args.burst) c.loop-at.at c.args.crew.now c.loop-at.crew (omega arith) c.loop-at.invariant
