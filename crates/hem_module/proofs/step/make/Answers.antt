use Rattle.std.proofs.Common.{◌∙◌, ap, sym, subst, map, nat_eq, []}
use Rattle.std.specs.List.{IsDistinct}
use Rattle.hem_module.specs.Places.{action_of}
use Rattle.hem_module.specs.States.{State, held_of}
use Rattle.hem_module.specs.Plans.{writes_of, sends_of, losses_of, with_queues, written, sent, lost}
use Rattle.hem_module.proofs.Steps.{made}
use Rattle.hem_module.proofs.step.make.Goals as goal

pub returns-clause-ok : goal.returns-clause-ok
returns-clause-ok c =
    let s = c.args.s.now in
    made s _ (map action_of c.args.rule.now.actions) c.as_slice-4.result.now c.as_slice-2.result.now c.as_slice-3.result.now
    (c.as_slice-4.ensures.value ∙ c.in_ok-plan.ensures.writes ∙ ap (λ a. writes_of (held_of s) (map action_of a)) c.as_slice.ensures)
    (c.as_slice-2.ensures.value ∙ c.in_ok-plan.ensures.sends ∙ ap (λ a. sends_of (held_of s) (map action_of a)) c.as_slice.ensures)
    (c.as_slice-3.ensures.keys ∙ c.in_ok-plan.ensures.losses ∙ ap (λ a. with_queues [] (losses_of (held_of s) (map action_of a))) c.as_slice.ensures)
    (subst (IsDistinct nat_eq) (sym c.as_slice-3.ensures.keys) c.as_slice-3.ensures.unique)
    (c.write_all.ensures ∙ ap (λ (d : State). written d.regs c.as_slice-4.result.now) c.s.view_is)
    (c.lose_all.ensures ∙ ap (λ q. lost q c.as_slice-3.result.now) (c.in_ok-send_all.ensures.ok ∙ ap (λ (d : State). sent d.queues c.as_slice-2.result.now) c.s.view_is))
