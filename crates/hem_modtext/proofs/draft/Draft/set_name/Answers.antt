use Rattle.std.proofs.Common.{◌≡◌, ◌∙◌, sym, subst, true}
use Rattle.hem_syntax.specs.Lawful.{is_declarable}
use Rattle.hem_modtext.specs.contracts.draft.Draft.{the_view}
use Rattle.hem_modtext.proofs.Small.{declarable}
use Rattle.hem_modtext.proofs.Kept.{named}
use Rattle.hem_modtext.proofs.draft.Draft.set_name.Goals as goal

pub invariant_of-self : goal.invariant_of-self
invariant_of-self c =
    named (the_view c.self.inside) _ c.self.invariant (subst (λ t. is_declarable t ≡ true) (sym (c.name_of-name.ensures ∙ c.text.ensures)) (declarable c.args.token.now c.requires.name c.requires.short))
