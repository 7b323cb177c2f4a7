use Rattle.std.proofs.Common.{◌≡◌, ◌∙◌, ap, sym, arith, length, get_or}
use Rattle.hem_base.specs.declared.ids.ObjectId.{ObjectId}
use Rattle.hem_tree.specs.Tree.{children_of}
use Rattle.hem_system.specs.declared.lists.Stand.TheVariants.{Child}
use Rattle.hem_system.specs.Cells.{line_of}
use Rattle.hem_system.specs.Lists.{change_one, changed_at}
use Rattle.hem_system.proofs.OwnPlace.{child_here, child_count}
use Rattle.hem_system.proofs.Rooms.{changed_first, changed_next, changed_below, unchanged_below, room_rest, room_now}
use Rattle.hem_system.proofs.firing.change_below.Goals as goal

pub returns-then-not-meets_below : goal.returns-then-not-meets_below
returns-then-not-meets_below c =
    unchanged_below c.args.tree.now c.args.firing c.args.outs.now (line_of c.args.cells.now) c.children_of-children.ensures.lawful (sym c.meets_below.ensures ∙ c.if-not-meets_below.true)

pub loop-place-init : goal.loop-place-init
loop-place-init c = record {
  goes_on = changed_first c.args.tree.now c.args.firing c.args.outs.now (line_of c.args.cells.now);
  room = λ k cell child never there. c.requires.room k cell child there;
}

pub change_if_there-requires : goal.change_if_there-requires
change_if_there-requires c =
    let d : ObjectId = record { 0 = 0 } in
    let at = child_here c.args.tree.now c.args.firing.object.0 c.loop-place.place c.children_of-children.result.now d c.children_of-children.ensures.children c.loop-place-test.true in
    room_now c.args.tree.now c.args.firing c.args.outs.now.to c.loop-place.place _ c.loop-place.cells c.children_of-children.ensures.lawful at c.loop-place.invariant.room

pub loop-place-preserved : goal.loop-place-preserved
loop-place-preserved c =
    let tree = c.args.tree.now in
    let n = c.loop-place.place in
    let ids = c.children_of-children.result.now in
    let d : ObjectId = record { 0 = 0 } in
    let at = child_here tree c.args.firing.object.0 n ids d c.children_of-children.ensures.children c.loop-place-test.true in
    let child = (get_or ids n d).0 in
    record {
      goes_on = c.change_if_there.ensures.changed
          ∙ ap (change_one child (changed_at c.args.firing c.args.outs.now (Child child n))) c.loop-place.invariant.goes_on
          ∙ changed_next tree c.args.firing c.args.outs.now n _ (line_of c.args.cells.now) c.children_of-children.ensures.lawful at;
      room = room_rest tree c.args.firing c.args.outs.now.to n _ c.loop-place.cells c.change_if_there.new.cells at c.change_if_there.ensures.others c.loop-place.invariant.room;
    }

pub returns : goal.returns
returns c =
    let ids = c.children_of-children.result.now in
    let end = c.loop-place-test.false in
    let most = c.loop-place.auto.place-end in
    let count : length ids ≡ length (children_of c.args.tree.now c.args.firing.object.0) = child_count c.args.tree.now c.args.firing.object.0 ids c.children_of-children.ensures.children in
    c.loop-place.invariant.goes_on ∙ changed_below c.args.tree.now c.args.firing c.args.outs.now c.loop-place.place (line_of c.args.cells.now) (omega arith)
