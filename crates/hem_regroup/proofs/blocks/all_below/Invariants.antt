use Rattle.std.proofs.Common.{◌≡◌}
use Rattle.hem_tree.specs.Tree.{below}
use Rattle.hem_regroup.proofs.blocks.all_below.Given as goal

abbrev pub invariant-loop-number : goal.invariant-loop-number
invariant-loop-number l = l.numbers.items ≡ below l.number
