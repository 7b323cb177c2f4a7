use Rattle.std.proofs.Common.{◌≡◌, ℕ, [], length}
use Rattle.std.specs.Prelude.{slice_index_or}
use Rattle.hem_regroup.proofs.lists.empty_lists.Given as goal

abbrev pub invariant-loop-n : goal.invariant-loop-n
invariant-loop-n g l = record {
  size : length l.lists ≡ l._n;
  none : (n : ℕ) → slice_index_or l.lists n [] ≡ [];
}
