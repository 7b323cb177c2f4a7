use Rattle.std.proofs.Common.{◌≡◌}
use Rattle.std.specs.Prelude.{map, filter}
use Rattle.hem_tree.specs.Tree.{below, is_number}
use Rattle.hem_tree.specs.Objects.{number_at}
use Rattle.hem_tree.proofs.objects.children_of.Given as goal

abbrev pub invariant-loop-k : goal.invariant-loop-k
invariant-loop-k l = map (λ id. id.0) l.children ≡ filter (λ k. is_number (number_at l.parents k) l.high.0) (below l.k)
