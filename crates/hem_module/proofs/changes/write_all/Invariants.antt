use Rattle.std.proofs.Common.{◌≡◌, take}
use Rattle.hem_module.specs.Plans.{written}
use Rattle.hem_module.proofs.changes.write_all.Given as goal

abbrev pub invariant-loop-write : goal.invariant-loop-write
invariant-loop-write l = l.regs ≡ written l.initial.regs (take l.write-index l.writes)
