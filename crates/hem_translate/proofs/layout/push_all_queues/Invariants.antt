use Rattle.std.proofs.Common.{◌≡◌, ◌++◌, map}
use Rattle.std.specs.List.{flat_map}
use Rattle.hem_tree.specs.Tree.{below}
use Rattle.hem_translate.specs.Places.{queue_of}
use Rattle.hem_translate.specs.ByObject.{object_queues}
use Rattle.hem_translate.proofs.layout.push_all_queues.Given as goal

-- the queues of the objects so far
abbrev pub invariant-loop-o : goal.invariant-loop-o
invariant-loop-o l = map queue_of l.queues ≡ map queue_of l.fn.queues ++ flat_map (object_queues l.tree) (below l.o)
