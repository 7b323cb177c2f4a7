use Rattle.std.proofs.Common.{◌≡◌, length}
use Rattle.hem_bound.specs.Sums.{total}
use Rattle.hem_work.specs.Work.{requests_of}
use Rattle.hem_cli.proofs.summary.requests_on.Given as goal

-- the count so far is that of what was passed
abbrev pub invariant-loop-object : goal.invariant-loop-object
invariant-loop-object l = l.count ≡ total l.object (λ o. length (requests_of l.work l.line o))
