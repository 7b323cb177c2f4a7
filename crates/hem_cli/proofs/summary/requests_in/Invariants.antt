use Rattle.std.proofs.Common.{◌≡◌, length}
use Rattle.hem_bound.specs.Sums.{total}
use Rattle.hem_work.specs.Work.{requests_of}
use Rattle.hem_cli.proofs.summary.requests_in.Given as goal

-- the count so far is that of what was passed
abbrev pub invariant-loop-line : goal.invariant-loop-line
invariant-loop-line l = l.count ≡ total l.line (λ k. total (length l.tree) (λ o. length (requests_of l.work k o)))
