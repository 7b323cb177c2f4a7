use Rattle.std.proofs.Common.{◌≡◌, Some}
use Rattle.hem_module.specs.Turns.{turns}
use Rattle.hem_module.proofs.turns.play.Given as goal

abbrev pub invariant-loop-fired : goal.invariant-loop-fired
invariant-loop-fired l = turns l.fired l.m l.initial.s ≡ Some l.s
