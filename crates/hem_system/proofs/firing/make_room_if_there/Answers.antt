use Rattle.std.proofs.Common.{arith}
use Rattle.std.proofs.lemmas.Option.{slice_get_within}
use Rattle.hem_system.proofs.Rooms.{room-same, room_there, set_elsewhere}
use Rattle.hem_system.proofs.firing.make_room_if_there.Goals as goal

pub returns-then-object-len-clause-same : goal.returns-then-object-len-clause-same
returns-then-object-len-clause-same c = room-same c.make_room_at.ensures

pub returns-then-object-len-clause-others : goal.returns-then-object-len-clause-others
returns-then-object-len-clause-others c k other = set_elsewhere c.args.cells.now c.make_room_at.new.cells c.args.object k c.make_room_at.ensures.next c.make_room_at.ensures.after other

pub returns-then-object-len-clause-room : goal.returns-then-object-len-clause-room
returns-then-object-len-clause-room c = room_there c.make_room_at.result c.make_room_at.ensures

pub returns-else-object-len-clause-room : goal.returns-else-object-len-clause-room
returns-else-object-len-clause-room c cell there =
    let within = slice_get_within c.args.cells.now c.args.object cell there in
    let len = c.len.ensures in
    let past = c.if-object-len.false in
    absurd (omega arith)
