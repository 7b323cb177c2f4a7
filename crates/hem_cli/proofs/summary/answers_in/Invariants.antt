use Rattle.std.proofs.Common.{◌≡◌}
use Rattle.hem_bound.specs.Sums.{total}
use Rattle.hem_runner.specs.Tally.{answers_on}
use Rattle.hem_cli.proofs.summary.answers_in.Given as goal

-- the count so far is that of what was passed
abbrev pub invariant-loop-line : goal.invariant-loop-line
invariant-loop-line l = l.count ≡ total l.line (answers_on l.s)
