use Rattle.std.proofs.Common.{sym, subst}
use Rattle.hem_modtext.specs.Sound.{IsSound}
use Rattle.hem_modtext.specs.contracts.draft.Draft.{the_view}
use Rattle.hem_modtext.proofs.Kept.{start_set}
use Rattle.hem_modtext.proofs.draft.Draft.set_start.Goals as goal

pub invariant_of-self : goal.invariant_of-self
invariant_of-self c =
    let e = the_view c.self.inside in
    subst (λ regs. IsSound (record e { regs = regs })) (sym c.set_last.ensures) (start_set e c.args.number c.self.invariant)
