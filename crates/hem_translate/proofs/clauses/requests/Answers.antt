use Rattle.std.proofs.Common.{ap, sym, ◌∙◌, ℕ}
use Rattle.hem_system.specs.declared.lane.Lane.TheVariants.{UpRequests}
use Rattle.hem_emit.specs.Names.{Queue}
use Rattle.hem_emit.specs.Clauses.{requests_of}
use Rattle.hem_translate.proofs.Statuses.{child_number}
use Rattle.hem_translate.proofs.clauses.requests.Goals as goal

pub returns-in-Some : goal.returns-in-Some
returns-in-Some c =
    ap (λ (n : ℕ). let q : Queue = record { object = n; lane = UpRequests } in q) (c.child.ensures ∙ child_number 0 c.args.site.now.kids c.in-Some.place)
    ∙ ap (requests_of c.args.site.now) (sym c.in-Some.is)
