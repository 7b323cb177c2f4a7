use Rattle.std.proofs.Common.{◌≡◌, sym, ap, subst, ◌∙◌, ◌&&◌, false}
use Rattle.hem_object.specs.Local.{Local}
use Rattle.hem_walk.specs.Firsts.{Glance, asks_child, is_open}
use Rattle.hem_walk.specs.Walk.{is_ready}
use Rattle.hem_walk.proofs.Begun.{not_begun_with}
use Rattle.hem_walk.proofs.working.Walking.is_ready_with.Goals as goal

pub returns-else-may_begin_with : goal.returns-else-may_begin_with
returns-else-may_begin_with c =
    let lacks = subst (λ (local : Local). (asks_child c.args.self.now.system c.args.firing.line.0 c.args.rule.now.take c.args.firing.me && is_open c.args.rule.now local) ≡ false) (ap (λ (g : Glance). g.local) c.glance.view_is) (sym c.may_begin_with.ensures ∙ c.if-may_begin_with.false) in
    c.if-may_begin_with.false
    ∙ sym (ap (is_ready c.args.p.now c.args.tree.now c.args.work.now.self_count c.args.self.now.journal c.args.self.now.system) c.requires.firing
    ∙ not_begun_with c.args.p.now c.args.tree.now c.args.work.now.self_count c.args.self.now.journal c.args.self.now.system c.args.firing.line.0 c.args.firing.object.0 c.args.glance.now c.args.rule.now c.args.firing.me c.requires.glance c.requires.rule c.requires.child lacks)
