use Rattle.std.proofs.Common.{◌≡◌, ℕ, ◌+◌, ◌-◌, [], length}
use Rattle.std.specs.Prelude.{slice_index_or}
use Rattle.hem_regroup.proofs.last.reach_line.Given as goal

abbrev pub invariant-loop-alloc : goal.invariant-loop-alloc
invariant-loop-alloc l = (n : ℕ) → slice_index_or l.lines n [] ≡ slice_index_or l.fn.lines n []

abbrev pub decreases-loop-alloc : goal.decreases-loop-alloc
decreases-loop-alloc l = l.line + 1 - length l.lines
