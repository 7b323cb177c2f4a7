use Rattle.std.proofs.Common.{arith}
use Rattle.std.specs.Prelude.{nat_lt}
use Rattle.hem_system.specs.State.{start}
use Rattle.hem_runner.specs.Runs.{channel_slots}
use Rattle.hem_runner.proofs.Ending.{crew-of, turn-crew, turn-last, turn-counted, none-fired, no-more-turns}
use Rattle.hem_runner.proofs.whole.run_crew.Goals as goal

pub settle_all-requires-after_bounds : goal.settle_all-requires-after_bounds
settle_all-requires-after_bounds g c κs within =
    let begun = start c.args.p.now c.args.tree.now c.args.work.now in
    crew-of c.args.p.now c.args.tree.now begun c.args.work.now.self_count channel_slots c.turn_once.new.crew
    (turn-crew c.args.p.now c.args.tree.now c.burst_of-burst.result (nat_lt 0 c.in_ok-fired.fired) c.loop-turn.crew c.turn_once.new.crew c.in_ok-fired.ensures begun c.args.work.now.self_count channel_slots c.loop-turn.invariant.crew)

pub returns-then-fired-eq0 : goal.returns-then-fired-eq0
returns-then-fired-eq0 g c =
    turn-last c.args.p.now c.args.tree.now c.burst_of-burst.result (nat_lt 0 c.in_ok-fired.fired) c.loop-turn.crew c.turn_once.new.crew c.in_ok-fired.ensures (start c.args.p.now c.args.tree.now c.args.work.now) c.args.work.now.self_count channel_slots c.settle_all.new.crew
    (none-fired c.in_ok-fired.fired c.if-fired-eq0.true) c.loop-turn.invariant.crew (c.settle_all.ensures c.args.p.now)

pub loop-turn-preserved : goal.loop-turn-preserved
loop-turn-preserved g c =
    record {
      crew = turn-crew c.args.p.now c.args.tree.now c.burst_of-burst.result (nat_lt 0 c.in_ok-fired.fired) c.loop-turn.crew c.turn_once.new.crew c.in_ok-fired.ensures (start c.args.p.now c.args.tree.now c.args.work.now) c.args.work.now.self_count channel_slots c.loop-turn.invariant.crew;
      few = turn-counted c.args.p.now c.args.tree.now c.burst_of-burst.result c.in_ok-fired.fired c.loop-turn.turn c.loop-turn.crew c.turn_once.new.crew c.in_ok-fired.ensures c.if-fired-eq0.false c.loop-turn.invariant.few;
    }

pub unreachable-requires : goal.unreachable-requires
unreachable-requires g c =
    let most = no-more-turns c.args.p.now c.args.tree.now c.args.work.now channel_slots c.loop-turn.crew c.settle_all-2.new.crew c.part-part.ensures.lawful c.requires.disciplined c.objects-objects.ensures.lawful c.requires.lawful c.loop-turn.invariant.crew (c.settle_all-2.ensures c.args.p.now) in
    omega (arith, most, c.loop-turn.invariant.few, c.loop-turn-test.false)
