use Rattle.std.proofs.Common.{◌≡◌, ◌∙◌, ◌++◌, ◌∷◌, [], ap, sym, subst, true, not, List, ℕ}
use Rattle.hem_modtext.specs.Draft.{Read, is_declared}
use Rattle.hem_modtext.specs.Sound.{IsSound}
use Rattle.hem_modtext.specs.contracts.draft.Draft.{the_view}
use Rattle.hem_modtext.proofs.Small.{declarable, is_not}
use Rattle.hem_modtext.proofs.Kept.{register_more}
use Rattle.hem_modtext.proofs.draft.Draft.add_register.Goals as goal

pub invariant_of-self-2 : goal.invariant_of-self-2
invariant_of-self-2 c =
    let e = the_view c.self.inside in
    let t = c.args.token.now.text in
    let fresh = is_not (is_declared e t) (subst (λ (d : Read). not (is_declared d t) ≡ true) (sym c.self.view_is) c.requires.fresh) in
    let more = c.in_ok-push.ensures.ok ∙ ap (λ (n : List ℕ). e.regs ++ (n, 0) ∷ []) (c.name_of-name.ensures ∙ c.text.ensures) in
    subst (λ regs. IsSound (record e { regs = regs })) (sym more) (register_more e t c.self.invariant (declarable c.args.token.now c.requires.name c.requires.short) fresh)

pub invariant_of-self : goal.invariant_of-self
invariant_of-self c =
    let e = the_view c.self.inside in
    subst (λ regs. IsSound (record e { regs = regs })) (sym c.in_err-push.ensures.err) c.self.invariant

pub returns-clause-ok : goal.returns-clause-ok
returns-clause-ok c =
    let more = c.in_ok-push.ensures.ok ∙ ap (λ (n : List ℕ). c.self.inside.regs ++ (n, 0) ∷ []) (c.name_of-name.ensures ∙ c.text.ensures) ∙ ap (λ (d : Read). d.regs ++ (c.args.token.now.text, 0) ∷ []) c.self.view_is in
    λ i. record (c.self.view_is i) { regs = more i }
