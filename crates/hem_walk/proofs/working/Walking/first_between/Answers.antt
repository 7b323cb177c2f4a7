use Rattle.std.proofs.Common.{◌∙◌, sym, arith}
use Rattle.hem_walk.proofs.Marked.{none_through, marked_less}
use Rattle.hem_walk.proofs.Tried.{first_here, none_more}
use Rattle.hem_walk.proofs.working.Walking.first_between.Goals as goal

pub returns-in-Some-first_at-clause-some : goal.returns-in-Some-first_at-clause-some
returns-in-Some-first_at-clause-some c =
    let it = c.in-Some.ensures.some in
    let none = none_through c.args.p.now c.args.tree.now c.args.work.now.self_count c.args.self.now.journal c.args.self.now.system c.loop-next.marks c.args.from c.loop-next.at c.in-Some.next c.loop-next.invariant.marked it.before c.loop-next.invariant.none in
    let first = c.loop-next.invariant.past in
    let more = it.past in
    first_here c.args.p.now c.args.tree.now c.args.work.now.self_count c.args.self.now.journal c.args.self.now.system c.args.from c.args.end c.in-Some.next c.spot.result.line.0 c.spot.result.object.0 c.in-Some-first_at.firing (omega (arith, first, more)) c.if-next-end.false none c.spot.ensures.there c.spot.ensures.line c.spot.ensures.object (sym c.first_at.ensures ∙ c.in-Some-first_at.is)

pub loop-next-preserved : goal.loop-next-preserved
loop-next-preserved c =
    let it = c.in-Some.ensures.some in
    let none = none_through c.args.p.now c.args.tree.now c.args.work.now.self_count c.args.self.now.journal c.args.self.now.system c.loop-next.marks c.args.from c.loop-next.at c.in-Some.next c.loop-next.invariant.marked it.before c.loop-next.invariant.none in
    let first = c.loop-next.invariant.past in
    let more = it.past in
    let idle = sym c.first_at.ensures ∙ c.in_default-first_at.is in
    record {
      past = omega (arith, first, more);
      marked = marked_less c.args.p.now c.args.tree.now c.args.work.now.self_count c.args.self.now.journal c.args.self.now.system c.loop-next.marks c.remove.new.self c.in-Some.next c.spot.result.line.0 c.spot.result.object.0 c.loop-next.invariant.marked c.remove.ensures.members c.remove.ensures.size c.spot.ensures.line c.spot.ensures.object idle;
      none = none_more c.args.p.now c.args.tree.now c.args.work.now.self_count c.args.self.now.journal c.args.self.now.system c.args.from c.in-Some.next c.spot.result.line.0 c.spot.result.object.0 none c.spot.ensures.line c.spot.ensures.object idle;
    }
