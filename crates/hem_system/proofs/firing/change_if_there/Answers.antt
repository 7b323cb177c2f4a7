use Rattle.std.proofs.Common.{sym, ◌∙◌, arith}
use Rattle.hem_system.proofs.Rooms.{change-there, change-absent, change-untouched, set_elsewhere}
use Rattle.hem_system.proofs.firing.change_if_there.Goals as goal
use Rattle.hem_system.proofs.firing.change_if_there.Goals.{else-object-len-via-then-object-len+else-is_changed, else-object-len-via-else-object-len}

pub returns-then-is_changed-clause-changed : goal.returns-then-is_changed-clause-changed
returns-then-is_changed-clause-changed c = change-there c.change_at.ensures

pub returns-then-is_changed-clause-others : goal.returns-then-is_changed-clause-others
returns-then-is_changed-clause-others c k other = set_elsewhere c.args.cells.now c.change_at.new.cells c.args.object k c.change_at.ensures.next c.change_at.ensures.after other

pub returns-else-object-len-clause-changed : goal.returns-else-object-len-clause-changed
returns-else-object-len-clause-changed c =
    let len = c.len.ensures in
    elim c.else-object-len.branch [
      | else-object-len-via-then-object-len+else-is_changed w ↦ change-untouched c.args.firing c.args.outs.now c.args.at c.args.object c.args.cells.now (sym w.is_changed.ensures ∙ w.if-is_changed.false)
      | else-object-len-via-else-object-len w ↦ let past = w.if-object-len.false in change-absent c.args.firing c.args.outs.now c.args.at c.args.object c.args.cells.now (omega arith)
    ]
