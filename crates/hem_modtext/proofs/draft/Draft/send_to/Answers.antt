use Rattle.std.proofs.Common.{◌≡◌, ◌∙◌, refl, ap, sym, subst, true, nat_lt, length, Some}
use Rattle.hem_text.specs.Spelling.{is_word}
use Rattle.hem_syntax.specs.Names.{is_in}
use Rattle.hem_module.specs.declared.rules.Act.TheVariants as act
use Rattle.hem_module.specs.declared.rules.ModValue.TheVariants as number
use Rattle.hem_modtext.specs.Draft.{Read, is_queue, queue_of}
use Rattle.hem_modtext.specs.contracts.draft.Draft.{the_view}
use Rattle.hem_modtext.proofs.Small.{both, queue_there}
use Rattle.hem_modtext.proofs.Kept.{act_set}
use Rattle.hem_modtext.proofs.draft.Draft.send_to.Goals as goal

pub invariant_of-self : goal.invariant_of-self
invariant_of-self c =
    let e = the_view c.self.inside in
    let t = c.args.token.now in
    let is = both (is_word t) (is_in e.queues t.text) (subst (λ (d : Read). is_queue d t ≡ true) (sym c.self.view_is) c.requires) in
    let place = c.queue_of-queue.ensures ∙ ap (queue_of c.args.self.now) c.text.ensures ∙ ap (λ (d : Read). queue_of d t.text) (sym c.self.view_is) in
    let there = subst (λ k. nat_lt k (length e.queues) ≡ true) (sym place) (queue_there e.queues t.text is.1) in
    act_set e (Some (act.Enq c.queue_of-queue.result (record { 0 = 0 }) (number.Number 0))) c.self.invariant (rw there refl)
