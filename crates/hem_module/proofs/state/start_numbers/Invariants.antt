use Rattle.std.proofs.Common.{◌≡◌, take, map}
use Rattle.hem_module.proofs.state.start_numbers.Given as goal

abbrev pub invariant-loop-place : goal.invariant-loop-place
invariant-loop-place l = l.numbers ≡ map (λ r. r.1) (take l.place l.regs)
