use Rattle.std.proofs.Common.{◌∙◌, sym, get_or, arith}
use Rattle.hem_base.specs.declared.ids.ObjectId.{ObjectId}
use Rattle.hem_system.proofs.OwnPlace.{child_here, child_count}
use Rattle.hem_transactions.proofs.Awaited.{awaited_first, awaited_none, awaited_nobody}
use Rattle.hem_transactions.proofs.line.first_awaited.Goals as goal

pub returns-then-kids-eq0 : goal.returns-then-kids-eq0
returns-then-kids-eq0 c = sym (awaited_nobody c.args.tree.now c.args.object.0 c.args.kids.0 c.if-kids-eq0.true)

pub returns-then-has : goal.returns-then-has
returns-then-has c =
    let tree = c.args.tree.now in
    let o = c.args.object.0 in
    let n = c.loop-place.place in
    let ids = c.children-child-items.result.now in
    let d : ObjectId = record { 0 = 0 } in
    let at = child_here tree o n ids d c.children-child-items.ensures c.loop-place-test.true in
    sym (awaited_first tree o c.args.kids.0 n (get_or ids n d).0 at (sym c.has.ensures ∙ c.if-has.true) c.loop-place.invariant)

pub returns : goal.returns
returns c =
    let tree = c.args.tree.now in
    let o = c.args.object.0 in
    let n = c.loop-place.place in
    let ids = c.children-child-items.result.now in
    let count = child_count tree o ids c.children-child-items.ensures in
    let end = c.loop-place-test.false in
    let most = c.loop-place.auto.place-end in
    sym (awaited_none tree o c.args.kids.0 n (omega (arith, count, end, most)) c.loop-place.invariant)
