use Rattle.hem_runner.proofs.Roomier.{roomier-room}
use Rattle.hem_runner.proofs.whole.turn_once.Goals as goal

pub round_all-requires-clause-room : goal.round_all-requires-clause-room
round_all-requires-clause-room g c = λ κs within. roomier-room c.args.burst c.settle_all.new.crew c.reserve_all.new.crew c.in_ok-reserve_all.ensures

pub returns : goal.returns
returns g c =
    record {
      settled = c.settle_all.new.crew;
      roomier = c.reserve_all.new.crew;
      settles = c.settle_all.ensures c.args.p.now;
      reserves = c.in_ok-reserve_all.ensures;
      round = c.round_all.ensures;
    }
