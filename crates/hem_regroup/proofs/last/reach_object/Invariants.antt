use Rattle.std.proofs.Common.{◌≡◌, ℕ, ◌+◌, ◌-◌, None, length}
use Rattle.std.specs.Prelude.{slice_index_or}
use Rattle.hem_regroup.proofs.last.reach_object.Given as goal

abbrev pub invariant-loop-numbers : goal.invariant-loop-numbers
invariant-loop-numbers l = (n : ℕ) → slice_index_or l.numbers n None ≡ slice_index_or l.fn.numbers n None

abbrev pub decreases-loop-numbers : goal.decreases-loop-numbers
decreases-loop-numbers l = l.object + 1 - length l.numbers
