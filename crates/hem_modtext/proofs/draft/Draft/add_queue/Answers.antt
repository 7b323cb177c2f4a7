use Rattle.std.proofs.Common.{◌≡◌, ◌∙◌, ◌++◌, ◌∷◌, [], ap, sym, subst, true, not, List, ℕ}
use Rattle.hem_syntax.specs.Names.{is_among, is_in}
use Rattle.hem_modtext.specs.Draft.{Read, is_declared}
use Rattle.hem_modtext.specs.Sound.{IsSound}
use Rattle.hem_modtext.specs.contracts.draft.Draft.{the_view}
use Rattle.hem_modtext.proofs.Small.{declarable, is_not, neither}
use Rattle.hem_modtext.proofs.Kept.{queue_more}
use Rattle.hem_modtext.proofs.draft.Draft.add_queue.Goals as goal

pub push-requires : goal.push-requires
push-requires c =
    let e = the_view c.self.inside in
    let t = c.args.token.now.text in
    let fresh = is_not (is_declared e t) (subst (λ (d : Read). not (is_declared d t) ≡ true) (sym c.self.view_is) c.requires.fresh) in
    ap (is_in e.queues) (c.name_of-name.ensures ∙ c.text.ensures) ∙ (neither (is_among e.regs t) (is_in e.queues t) fresh).1

pub invariant_of-self-2 : goal.invariant_of-self-2
invariant_of-self-2 c =
    let e = the_view c.self.inside in
    let t = c.args.token.now.text in
    let fresh = is_not (is_declared e t) (subst (λ (d : Read). not (is_declared d t) ≡ true) (sym c.self.view_is) c.requires.fresh) in
    let more = c.in_ok-push.ensures.ok ∙ ap (λ (n : List ℕ). e.queues ++ n ∷ []) (c.name_of-name.ensures ∙ c.text.ensures) in
    subst (λ queues. IsSound (record e { queues = queues })) (sym more) (queue_more e t c.self.invariant (declarable c.args.token.now c.requires.name c.requires.short) fresh)

pub invariant_of-self : goal.invariant_of-self
invariant_of-self c =
    let e = the_view c.self.inside in
    subst (λ queues. IsSound (record e { queues = queues })) (sym c.in_err-push.ensures.err) c.self.invariant
