use Rattle.std.proofs.Common.{◌≡◌, ◌≤◌}
use Rattle.std.specs.Prelude.{count_by}
use Rattle.hem_tree.specs.Tree.{below, is_number}
use Rattle.hem_tree.specs.Objects.{number_at}
use Rattle.hem_tree.proofs.objects.count_children.Given as goal

abbrev pub invariant-loop-k : goal.invariant-loop-k
invariant-loop-k l = record {
  counted : l.count ≡ count_by (λ k. is_number (number_at l.parents k) l.high.0) (below l.k);
  few : l.count ≤ l.k;
}
