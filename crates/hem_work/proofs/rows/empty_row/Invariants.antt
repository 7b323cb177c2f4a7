use Rattle.std.proofs.Common.{◌≡◌, ◌≤◌, ◌-◌, [], length}
use Rattle.std.specs.Prelude.{map}
use Rattle.hem_tree.specs.Tree.{below}
use Rattle.hem_work.proofs.rows.empty_row.Given as goal

abbrev pub invariant-loop-alloc : goal.invariant-loop-alloc
invariant-loop-alloc l = record {
  empty : l.row ≡ map (λ object. []) (below (length l.row));
  within : length l.row ≤ l.objects;
}

abbrev pub decreases-loop-alloc : goal.decreases-loop-alloc
decreases-loop-alloc l = l.objects - length l.row
