use Rattle.std.proofs.Common.{◌<◌, length, arith}
use Rattle.hem_runner.proofs.Elements.{at_two_parts}
use Rattle.hem_runner.proofs.pairs.at_two.Goals as goal

pub returns : goal.returns
returns g c =
    let cut = c.split_at_mut-front in
    let some : 0 < length cut.result.1.now = omega (arith, cut.ensures.back_len, c.requires.inside) in
    at_two_parts g.F.FnOnce c.args.f _ _ _ _ _ c.index-front-upper.result c.index-back-0.result _ _ cut.ensures.value cut.ensures.front_len c.requires.order some c.call_two.ensures
