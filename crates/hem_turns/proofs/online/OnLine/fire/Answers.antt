use Rattle.std.proofs.Common.{◌≡◌, ap, sym, ◌∙◌, subst}
use Rattle.hem_fire.specs.declared.outs.Outs.{Outs}
use Rattle.hem_ends.specs.Ends.{HoldsSlots}
use Rattle.hem_choice.specs.Choices.{Choice}
use Rattle.hem_turns.specs.OnLine.{OnLine}
use Rattle.hem_turns.proofs.Ready.{slots-left}
use Rattle.hem_turns.proofs.online.OnLine.fire.Goals as goal

pub put-requires-after_bounds : goal.put-requires-after_bounds
put-requires-after_bounds g c κs within =
    let gives : c.fire-outs.result ≡ c.args.choice.now.plan.outs = c.fire-outs.ensures.gives ∙ ap (λ (x : Choice). x.plan.outs) c.choice.view_is in
    let slots = subst (HoldsSlots c.args.choice.now.plan.outs.to) (sym (ap (λ (l : OnLine). l.ends) c.self.view_is)) c.requires.slots in
    slots-left c.fire-outs.result.to _ _ _ _ _ c.take.ensures (subst (λ (o : Outs). HoldsSlots o.to c.self.inside.ends) (sym gives) slots)
