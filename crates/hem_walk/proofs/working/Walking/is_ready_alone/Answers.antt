use Rattle.std.proofs.Common.{sym, ap, ◌∙◌}
use Rattle.hem_walk.specs.Walk.{is_ready}
use Rattle.hem_walk.proofs.Begun.{not_begun}
use Rattle.hem_walk.proofs.working.Walking.is_ready_alone.Goals as goal

pub returns-else-may_begin : goal.returns-else-may_begin
returns-else-may_begin c =
    c.if-may_begin.false
    ∙ sym (ap (is_ready c.args.p.now c.args.tree.now c.args.work.now.self_count c.args.self.now.journal c.args.self.now.system) c.requires.firing
    ∙ not_begun c.args.p.now c.args.tree.now c.args.work.now.self_count c.args.self.now.journal c.args.self.now.system c.args.firing.line.0 c.args.firing.object.0 c.args.glance.now c.args.rule.now c.requires.glance c.requires.rule (sym c.may_begin.ensures ∙ c.if-may_begin.false))
