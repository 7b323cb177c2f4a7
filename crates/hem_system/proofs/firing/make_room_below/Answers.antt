use Rattle.std.proofs.Common.{◌≡◌, ◌∙◌, refl, sym, arith, length}
use Rattle.hem_base.specs.declared.ids.ObjectId.{ObjectId}
use Rattle.hem_tree.specs.Tree.{children_of}
use Rattle.hem_system.proofs.OwnPlace.{child_here, child_count}
use Rattle.hem_system.proofs.Rooms.{room_first, room_next, room_below, room_unsent}
use Rattle.hem_system.proofs.firing.make_room_below.Goals as goal

pub returns-then-not-sends_below-clause-room : goal.returns-then-not-sends_below-clause-room
returns-then-not-sends_below-clause-room c =
    room_unsent c.args.tree.now c.args.firing c.args.to c.args.cells.now c.children_of-children.ensures.lawful (sym c.sends_below.ensures ∙ c.if-not-sends_below.true)

pub loop-place-init : goal.loop-place-init
loop-place-init c = record { same = refl; room = room_first c.args.tree.now c.args.firing c.args.to c.args.cells.now }

pub loop-place-preserved : goal.loop-place-preserved
loop-place-preserved c =
    let ids = c.children_of-children.result.now in
    let d : ObjectId = record { 0 = 0 } in
    let at = child_here c.args.tree.now c.args.firing.object.0 c.loop-place.place ids d c.children_of-children.ensures.children c.loop-place-test.true in
    record {
      same = c.make_room_if_there.ensures.same ∙ c.loop-place.invariant.same;
      room = room_next c.args.tree.now c.args.firing c.args.to c.loop-place.place _ c.loop-place.cells c.make_room_if_there.new.cells c.children_of-children.ensures.lawful at c.make_room_if_there.ensures.others
          c.in_ok-make_room_if_there.ensures.room c.loop-place.invariant.room;
    }

pub returns-clause-room : goal.returns-clause-room
returns-clause-room c =
    let ids = c.children_of-children.result.now in
    let end = c.loop-place-test.false in
    let most = c.loop-place.auto.place-end in
    let count : length ids ≡ length (children_of c.args.tree.now c.args.firing.object.0) = child_count c.args.tree.now c.args.firing.object.0 ids c.children_of-children.ensures.children in
    room_below c.args.tree.now c.args.firing c.args.to c.loop-place.place c.loop-place.cells (omega arith) c.loop-place.invariant.room
