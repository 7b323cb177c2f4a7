use Rattle.std.proofs.Common.{◌≡◌, sym, subst, true, None}
use Rattle.hem_module.specs.Lawful.{has_atom}
use Rattle.hem_modtext.specs.Draft.{Read}
use Rattle.hem_modtext.specs.Sound.{IsSound, counts_in}
use Rattle.hem_modtext.specs.contracts.draft.Draft.{the_view}
use Rattle.hem_modtext.proofs.Kept.{further}
use Rattle.hem_modtext.proofs.draft.Draft.add_further.Goals as goal

pub invariant_of-self-2 : goal.invariant_of-self-2
invariant_of-self-2 c =
    let e = the_view c.self.inside in
    let there = subst (λ (d : Read). has_atom (counts_in d) c.args.atom ≡ true) (sym c.self.view_is) c.requires in
    subst (λ clauses. IsSound (record e { clauses = clauses; atom = None })) (sym c.in_ok-push_further.ensures.ok) (further e c.args.atom c.self.invariant there)
