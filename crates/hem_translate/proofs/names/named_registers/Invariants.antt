use Rattle.std.proofs.Common.{◌≡◌, map, take}
use Rattle.hem_emit.specs.Written.{written_register}
use Rattle.hem_translate.specs.Places.{reg_of}
use Rattle.hem_translate.proofs.names.named_registers.Given as goal

-- the registers so far
abbrev pub invariant-loop-reg : goal.invariant-loop-reg
invariant-loop-reg l = l.table ≡ map (λ r. written_register l.p l.tree (reg_of r)) (take l.reg-index l.regs)
