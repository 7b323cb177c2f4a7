use Rattle.std.proofs.Common.{◌≡◌, ◌++◌, ◌∷◌, [], map, drop}
use Rattle.std.specs.List.{flat_map}
use Rattle.hem_emit.specs.Names.{entry, awaits}
use Rattle.hem_translate.specs.Places.{reg_of}
use Rattle.hem_translate.proofs.tables.push_children.Given as goal

-- the registers so far and those of the children that are left are all
abbrev pub invariant-loop-child : goal.invariant-loop-child
invariant-loop-child l = map reg_of l.regs ++ flat_map (λ c. entry c.0 ∷ awaits c.0 ∷ []) (drop l.child-index l.children) ≡ map reg_of l.fn.regs ++ flat_map (λ c. entry c.0 ∷ awaits c.0 ∷ []) l.children
