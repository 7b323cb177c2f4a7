use Rattle.std.proofs.Common.{◌≡◌, ◌++◌, map}
use Rattle.std.specs.List.{flat_map}
use Rattle.hem_tree.specs.Tree.{below}
use Rattle.hem_translate.specs.Places.{reg_of}
use Rattle.hem_translate.specs.ByObject.{object_registers}
use Rattle.hem_translate.proofs.layout.push_objects.Given as goal

-- the registers of the objects so far
abbrev pub invariant-loop-o : goal.invariant-loop-o
invariant-loop-o l = map reg_of l.regs ≡ map reg_of l.fn.regs ++ flat_map (object_registers l.p l.tree) (below l.o)
