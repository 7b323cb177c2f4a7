use Rattle.std.proofs.Common.{sym, subst, List}
use Rattle.hem_fire.specs.declared.outs.Outs.{Outs}
use Rattle.hem_system.specs.declared.cell.Cell.{Cell as Kept}
use Rattle.hem_system.specs.Cells.{line_of}
use Rattle.hem_system.specs.Lists.{HaveRoom}
use Rattle.hem_system.specs.Steps.{IsEnabled}
use Rattle.hem_system.proofs.Made.{enabled_names, fired_room, fired_line}
use Rattle.hem_system.proofs.firing.step_on.Goals as goal

pub fire_at-outs-requires-clause-names : goal.fire_at-outs-requires-clause-names
fire_at-outs-requires-clause-names c =
    let x = c.in-Some.enabled in
    let enabled = subst (λ (cells : List Kept). IsEnabled c.args.p.now c.args.tree.now (line_of cells) c.args.firing x.rule.now x.plan x.took) c.as_slice.ensures c.in-Some.ensures.enabled in
    enabled_names (line_of c.args.cells.now) c.make_room.new.cells c.make_room.ensures.same enabled

pub change-requires-clause-room : goal.change-requires-clause-room
change-requires-clause-room c =
    let room = subst (λ (outs : Outs). HaveRoom c.args.tree.now c.args.firing outs.to c.make_room.new.cells) (sym c.fire_at-outs.ensures.gives) c.in_ok-make_room.ensures.room in
    fired_room c.args.tree.now c.args.firing c.fire_at-outs.result.to c.args.firing.object.0 c.make_room.new.cells c.fire_at-outs.new.cells c.fire_at-outs.ensures.fired room

pub returns-clause-ok : goal.returns-clause-ok
returns-clause-ok c =
    let x = c.in-Some.enabled in
    let enabled = subst (λ (cells : List Kept). IsEnabled c.args.p.now c.args.tree.now (line_of cells) c.args.firing x.rule.now x.plan x.took) c.as_slice.ensures c.in-Some.ensures.enabled in
    fired_line c.args.cells.now c.make_room.new.cells c.fire_at-outs.new.cells c.change.new.cells c.fire_at-outs.result enabled c.fire_at-outs.ensures.gives c.make_room.ensures.same c.fire_at-outs.ensures.fired c.change.ensures
