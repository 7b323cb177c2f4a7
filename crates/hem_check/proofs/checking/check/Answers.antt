use Rattle.std.proofs.Common.{sym, ◌∙◌}
use Rattle.hem_check.specs.Discipline.{first_broken}
use Rattle.hem_check.proofs.Clauses.{exact}
use Rattle.hem_check.proofs.FirstFound.{nothing-found, found-broken}
use Rattle.hem_check.proofs.checking.check.Goals as goal

pub make-requires : goal.make-requires
make-requires c = (exact c.args.p).0 (nothing-found (first_broken c.args.p) (sym c.in-None.is ∙ c.first_broken.ensures))

pub returns-in-Some-clause-exact : goal.returns-in-Some-clause-exact
returns-in-Some-clause-exact c =
    (λ is. cc, λ disciplined. absurd (found-broken (first_broken c.args.p) c.in-Some.found (sym c.in-Some.is ∙ c.first_broken.ensures) ((exact c.args.p).1 disciplined)))
