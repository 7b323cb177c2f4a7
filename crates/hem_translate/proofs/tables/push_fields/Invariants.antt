use Rattle.std.proofs.Common.{◌≡◌, ◌++◌, map}
use Rattle.hem_tree.specs.Tree.{below}
use Rattle.hem_emit.specs.Names.{field}
use Rattle.hem_translate.specs.Places.{reg_of}
use Rattle.hem_translate.proofs.tables.push_fields.Given as goal

-- the fields so far
abbrev pub invariant-loop-place : goal.invariant-loop-place
invariant-loop-place l = map reg_of l.regs ≡ map reg_of l.fn.regs ++ map (λ i. field i l.o) (below l.place)
