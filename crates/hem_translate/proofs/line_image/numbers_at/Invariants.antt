use Rattle.std.proofs.Common.{◌≡◌, map, take}
use Rattle.hem_emit.specs.Image.{number_of}
use Rattle.hem_translate.specs.Places.{reg_of}
use Rattle.hem_translate.specs.Lines.{line_at}
use Rattle.hem_translate.proofs.line_image.numbers_at.Given as goal

-- the numbers so far
abbrev pub invariant-loop-reg : goal.invariant-loop-reg
invariant-loop-reg l = l.numbers ≡ map (λ r. number_of l.tree (line_at l.s l.line.0) (reg_of r)) (take l.reg-index l.regs)
