use Rattle.std.proofs.Common.{◌≡◌}
use Rattle.hem_bound.specs.Sums.{total}
use Rattle.hem_runner.specs.Tally.{answers_at}
use Rattle.hem_cli.proofs.summary.answers_on.Given as goal

-- the count so far is that of what was passed
abbrev pub invariant-loop-object : goal.invariant-loop-object
invariant-loop-object l = l.count ≡ total l.object (answers_at l.s l.line)
