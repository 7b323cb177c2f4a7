use Rattle.std.proofs.Common.{rules, ◌∙◌, ◌<◌, length, get_or, arith}
use Rattle.std.proofs.lemmas.Option.{slice_get-get_or, get_or_from_slice_get}
use denote.Param.Send.{sendable}
use Rattle.hem_tree.proofs.Lawful.{get_within}
use Rattle.hem_runner.specs.Settles.{AreSettledTogether}
use Rattle.hem_runner.proofs.Settling.{together-same}
use Rattle.hem_runner.proofs.settle.settle_at.Goals as goal

pub at_two-requires-clause-accepts : goal.at_two-requires-clause-accepts
at_two-requires-clause-accepts g c = λ d e p q x y.
    let upper : c.args.upper < length c.args.crew.now = omega (arith, c.requires.order, c.requires.inside) in
    (rw (x, y) (c.requires.fit (get_or c.args.crew.now c.args.upper d) (get_or c.args.crew.now c.args.lower e) (slice_get-get_or c.args.crew.now c.args.upper d upper) (slice_get-get_or c.args.crew.now c.args.lower e c.requires.inside)), search (rules, sendable))

pub returns : goal.returns
returns g c =
    let inside : c.args.upper < length c.args.crew.now = omega (arith, c.requires.order, c.requires.inside) in
    let upper = get_within c.args.crew.now c.args.upper inside in
    let lower = get_within c.args.crew.now c.args.lower c.requires.inside in
    let t = c.at_two.ensures.changed upper.0 lower.0 in
    let h : AreSettledTogether c.args.place t.first.now t.first_after.now t.second.now t.second_after.now = t.call.1.1 in
    record {
      high = upper.0;
      high_next = c.at_two.ensures.up;
      low = lower.0;
      low_next = c.at_two.ensures.low;
      high_there = upper.1;
      low_there = lower.1;
      settled = together-same c.args.place _ _ _ _ _ _ _ _ (t.first_is ∙ get_or_from_slice_get c.args.crew.now c.args.upper upper.0 upper.0 upper.1) t.first_left (t.second_is ∙ get_or_from_slice_get c.args.crew.now c.args.lower lower.0 lower.0 lower.1) t.second_left h;
      after = c.at_two.ensures.new_is;
    }
