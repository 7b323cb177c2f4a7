use Rattle.std.proofs.Common.{◌<◌}
use Rattle.hem_runner.specs.Settles.{AreSettledFor}
use Rattle.hem_runner.proofs.settle.settle_all.Given as goal

abbrev pub invariant-loop-high : goal.invariant-loop-high
invariant-loop-high g l = AreSettledFor (λ o parent. parent < l.high) l.tree l.fn.crew l.crew
