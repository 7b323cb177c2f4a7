use Rattle.std.proofs.Common.{rules}
use Rattle.hem_worker.proofs.RoundsRun.{round-more, round-done}
use Rattle.hem_worker.proofs.rounds.fire_all.Goals as goal

pub loop-at-preserved : goal.loop-at-preserved
loop-at-preserved g c = round-more c.args.p.now c.args.place.kind c.args.place.self_count c.args.place.object c.args.children.now c.args.burst.most c.loop-at.fired c.fire_at-fired.result c.loop-at.at c.args.lines.now c.loop-at.lines c.fire_at-fired.new.lines c.loop-at.invariant c.fire_at-fired.ensures.most c.fire_at-fired.ensures.fired

pub returns : goal.returns
returns g c = round-done c.args.p.now c.args.place.kind c.args.place.self_count c.args.place.object c.args.children.now c.args.burst.most c.loop-at.fired c.loop-at.at c.args.lines.now c.loop-at.lines (search rules) c.loop-at.invariant
