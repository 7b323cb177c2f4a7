use Rattle.std.proofs.Common.{◌≡◌, ◌+◌, ◌&&◌}
use Rattle.std.specs.List.{list_all}
use Rattle.hem_runner.specs.Tally.{is_at_rest, answered_by}
use Rattle.hem_runner.proofs.tallies.finished.Given as goal

-- what the lines passed and those that are left come to is what all come to
abbrev pub invariant-loop-line : goal.invariant-loop-line
invariant-loop-line g l =
    ((l.quiet && list_all is_at_rest l.line-iterator.rest.items) ≡ list_all is_at_rest l.fn.worker.lines)
    × (l.answers + answered_by l.line-iterator.rest.items ≡ answered_by l.fn.worker.lines)
