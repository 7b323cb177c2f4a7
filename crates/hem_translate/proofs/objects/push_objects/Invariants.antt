use Rattle.std.proofs.Common.{◌≡◌, ◌++◌}
use Rattle.std.specs.List.{flat_map}
use Rattle.hem_tree.specs.Tree.{below}
use Rattle.hem_translate.specs.ByObject.{object_rules}
use Rattle.hem_translate.proofs.objects.push_objects.Given as goal

-- the rules of the objects so far
abbrev pub invariant-loop-o : goal.invariant-loop-o
invariant-loop-o l = l.rules ≡ l.fn.rules ++ flat_map (object_rules l.l l.p l.tree) (below l.o)
