use Rattle.std.proofs.Common.{◌≡◌, ◌∙◌, refl, ap, sym, subst, true, nat_lt, length, Some}
use Rattle.hem_text.specs.Spelling.{is_word}
use Rattle.hem_syntax.specs.Names.{is_among}
use Rattle.hem_module.specs.declared.rules.Act.TheVariants as act
use Rattle.hem_module.specs.declared.rules.ModValue.TheVariants as number
use Rattle.hem_modtext.specs.Draft.{Read, is_register, register_of}
use Rattle.hem_modtext.specs.contracts.draft.Draft.{the_view}
use Rattle.hem_modtext.proofs.Small.{both, register_there}
use Rattle.hem_modtext.proofs.Kept.{act_set}
use Rattle.hem_modtext.proofs.draft.Draft.write_register.Goals as goal

pub invariant_of-self : goal.invariant_of-self
invariant_of-self c =
    let e = the_view c.self.inside in
    let t = c.args.token.now in
    let is = both (is_word t) (is_among e.regs t.text) (subst (λ (d : Read). is_register d t ≡ true) (sym c.self.view_is) c.requires) in
    let place = c.register_of-register.ensures ∙ ap (register_of c.args.self.now) c.text.ensures ∙ ap (λ (d : Read). register_of d t.text) (sym c.self.view_is) in
    let there = subst (λ k. nat_lt k (length e.regs) ≡ true) (sym place) (register_there e.regs t.text is.1) in
    act_set e (Some (act.Set c.register_of-register.result (number.Number 0))) c.self.invariant (rw there refl)
