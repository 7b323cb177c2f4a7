use Rattle.std.proofs.Common.{◌≡◌}
use Rattle.hem_tree.specs.Raw.{parent_in}
use Rattle.hem_tree.specs.Objects.{number_of}
use Rattle.hem_tree.proofs.objects.nearest_above.Given as goal

abbrev pub invariant-loop-k : goal.invariant-loop-k
invariant-loop-k l = number_of l.nearest ≡ parent_in l.nodes l.k l.level
