use Rattle.std.proofs.Common.{sym, ◌∙◌, ap, refl}
use Rattle.hem_fire.specs.OneFire.{can_begin}
use Rattle.hem_fire.specs.Sends.{send_names}
use Rattle.hem_fire.proofs.Parts.{can_fire-parts, can_change, second_fails, all_pass, plan-none, plan-some, planned-is}
use Rattle.hem_fire.proofs.plan.Plan.of.Goals as goal

pub returns-then-not-can_change : goal.returns-then-not-can_change
returns-then-not-can_change c =
    let a = c.args in
    let request = c.request_in_hand-request.ensures a.rule.now.send a.local.now c.message_of-message.ensures in
    let parts = can_fire-parts a.p.now a.kind a.rule.now a.me a.local.now a.heads.now _ _ c.view_of-view.ensures request in
    let fails = sym c.can_change.ensures ∙ c.if-not-can_change.true in
    plan-none a.p.now a.kind a.rule.now a.me a.local.now a.heads.now (parts ∙ second_fails _ _ _ fails)

pub returns : goal.returns
returns c =
    let a = c.args in
    let request = c.request_in_hand-request.ensures a.rule.now.send a.local.now c.message_of-message.ensures in
    let parts = can_fire-parts a.p.now a.kind a.rule.now a.me a.local.now a.heads.now _ _ c.view_of-view.ensures request in
    let begins = sym c.can_begin.ensures ∙ c.if-not-can_begin.false in
    let changes = sym c.can_change.ensures ∙ c.if-not-can_change.false in
    let sends = sym (c.send_names.ensures a.local.now c.message_of-message.ensures c.targets-targets.ensures) ∙ c.if-not-send_names.false in
    plan-some a.p.now a.kind a.rule.now a.me a.local.now a.heads.now _ (parts ∙ all_pass _ _ _ begins changes sends)
    (planned-is a.p.now a.kind a.rule.now a.me a.local.now a.heads.now _ _ _ _ _ c.view_of-view.ensures request c.targets-targets.ensures c.lock_taken-lock.ensures
    (c.outs_with-outs.ensures a.kind a.me a.local.now a.heads.now c.view_of-view.ensures c.message_of-message.ensures c.targets-targets.ensures))
