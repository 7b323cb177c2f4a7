use Rattle.hem_system.proofs.Rooms.{room_all, on_ok}
use Rattle.hem_system.proofs.firing.make_room.Goals as goal

pub returns-clause-room : goal.returns-clause-room
returns-clause-room c =
    on_ok c.make_room_if_there.result
    (room_all c.args.tree.now c.args.firing c.args.to c.make_room_below.new.cells c.make_room_if_there.new.cells c.objects-objects.ensures.lawful c.in_ok-make_room_below.ensures.room c.make_room_if_there.ensures.others)
    c.make_room_if_there.ensures.room
