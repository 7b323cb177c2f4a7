use Rattle.std.proofs.Common.{◌≡◌, arith, length}
use Rattle.hem_work.specs.Work.{requests_of}
use Rattle.hem_wiring.proofs.Added.{none_added, last_takes, one_added, all_added}
use Rattle.hem_wiring.proofs.crew.add_to_all.Goals as goal

pub loop-own-init : goal.loop-own-init
loop-own-init g c = none_added c.args.p.now (requests_of c.args.work.now c.args.line.0) c.args.row c.into_vec-left.result.items c.args.crew.now c.into_vec-left.ensures

pub add_at-requires-clause-takes : goal.add_at-requires-clause-takes
add_at-requires-clause-takes g c κs within =
    last_takes c.args.p.now (requests_of c.args.work.now c.args.line.0) c.args.row c.loop-own.left.items c.pop.new.self.items c.in-Some.own c.args.crew.now c.loop-own.crew c.len-place.result c.in-Some.ensures.items (omega (arith, c.len-place.ensures)) c.loop-own.invariant c.requires.takes

pub loop-own-preserved : goal.loop-own-preserved
loop-own-preserved g c =
    one_added c.args.p.now (requests_of c.args.work.now c.args.line.0) c.args.row c.loop-own.left.items c.pop.new.self.items c.in-Some.own c.args.crew.now c.loop-own.crew c.len-place.result c.in-Some.ensures.items (omega (arith, c.len-place.ensures)) c.loop-own.invariant
    c.add_at.new.crew c.requests-requests.result.now c.requests-requests.ensures c.in_ok-add_at.ensures

pub returns : goal.returns
returns g c =
    let none : length c.loop-own.left.items ≡ 0 = omega (arith, c.in_default.ensures.cases.0) in
    all_added c.args.p.now (requests_of c.args.work.now c.args.line.0) c.args.row c.loop-own.left.items c.args.crew.now c.loop-own.crew none c.loop-own.invariant
