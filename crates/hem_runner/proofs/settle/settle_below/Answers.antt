use Rattle.std.proofs.Common.{◌<◌, length, arith}
use Rattle.hem_runner.proofs.Settling.{child-ready, ready-fits, below-more, below-done}
use Rattle.hem_runner.proofs.settle.settle_below.Goals as goal

pub settle_at-requires-clause-order : goal.settle_at-requires-clause-order
settle_at-requires-clause-order g c = λ κs within.
    let less : c.loop-place.place < length c.children-children.result.now = omega arith in
    (child-ready _ c.args.tree.now c.args.crew.now c.loop-place.crew c.args.high.0 c.loop-place.place c.children-children.result.now _ c.objects-objects.ensures.lawful.shape c.requires.crew c.loop-place.invariant c.children-children.ensures less).child.later

pub settle_at-requires-clause-inside : goal.settle_at-requires-clause-inside
settle_at-requires-clause-inside g c = λ κs within.
    let less : c.loop-place.place < length c.children-children.result.now = omega arith in
    (child-ready _ c.args.tree.now c.args.crew.now c.loop-place.crew c.args.high.0 c.loop-place.place c.children-children.result.now _ c.objects-objects.ensures.lawful.shape c.requires.crew c.loop-place.invariant c.children-children.ensures less).child.inside

pub settle_at-requires-clause-fit : goal.settle_at-requires-clause-fit
settle_at-requires-clause-fit g c = λ κs within.
    let less : c.loop-place.place < length c.children-children.result.now = omega arith in
    ready-fits c.args.tree.now c.loop-place.crew c.args.high.0 c.loop-place.place _
    (child-ready _ c.args.tree.now c.args.crew.now c.loop-place.crew c.args.high.0 c.loop-place.place c.children-children.result.now _ c.objects-objects.ensures.lawful.shape c.requires.crew c.loop-place.invariant c.children-children.ensures less)

pub loop-place-preserved : goal.loop-place-preserved
loop-place-preserved g c =
    let less : c.loop-place.place < length c.children-children.result.now = omega arith in
    below-more c.args.tree.now c.args.crew.now c.loop-place.crew c.settle_at.new.crew c.args.high.0 c.loop-place.place _
    (child-ready _ c.args.tree.now c.args.crew.now c.loop-place.crew c.args.high.0 c.loop-place.place c.children-children.result.now _ c.objects-objects.ensures.lawful.shape c.requires.crew c.loop-place.invariant c.children-children.ensures less)
    c.loop-place.invariant c.settle_at.ensures

pub returns : goal.returns
returns g c = below-done c.args.tree.now c.args.crew.now c.loop-place.crew c.args.high.0 c.loop-place.place c.children-children.result.now c.children-children.ensures (omega arith) c.loop-place.invariant
