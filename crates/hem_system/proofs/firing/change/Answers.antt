use Rattle.std.proofs.Common.{refl, ap, ◌∙◌}
use Rattle.hem_system.specs.declared.lists.Stand.TheVariants.{Own}
use Rattle.hem_system.specs.State.{map_each}
use Rattle.hem_system.specs.Cells.{line_of}
use Rattle.hem_system.specs.Lists.{below_after}
use Rattle.hem_system.proofs.Changed.{room_at}
use Rattle.hem_system.proofs.Rooms.{room_left, changed_all}
use Rattle.hem_system.proofs.firing.change.Goals as goal

pub change_if_there-requires : goal.change_if_there-requires
change_if_there-requires c cell there =
    room_at c.args.tree.now c.args.firing c.args.outs.now.to c.args.firing.object.0 Own cell c.objects-objects.ensures.lawful refl (c.requires.room c.args.firing.object.0 cell there)

pub change_below-requires-clause-room : goal.change_below-requires-clause-room
change_below-requires-clause-room c =
    room_left c.args.tree.now c.args.firing c.args.outs.now.to c.args.cells.now c.change_if_there.new.cells c.objects-objects.ensures.lawful c.change_if_there.ensures.others c.requires.room

pub returns : goal.returns
returns c =
    c.change_below.ensures
    ∙ ap (map_each (below_after c.args.tree.now c.args.firing c.args.outs.now) 0) c.change_if_there.ensures.changed
    ∙ changed_all c.args.tree.now c.args.firing c.args.outs.now (line_of c.args.cells.now) c.objects-objects.ensures.lawful
