use Rattle.std.proofs.Common.{◌≡◌, ◌+◌, ◌&&◌}
use Rattle.hem_runner.specs.Tally.{all_at_rest, all_answered}
use Rattle.hem_runner.proofs.tallies.tally_of.Given as goal

-- what the objects passed and those that are left come to is what all come to
abbrev pub invariant-loop-worker : goal.invariant-loop-worker
invariant-loop-worker g l =
    ((l.quiet && all_at_rest l.worker-iterator.rest.items) ≡ all_at_rest l.fn.crew.items)
    × (l.answers + all_answered l.worker-iterator.rest.items ≡ all_answered l.fn.crew.items)
