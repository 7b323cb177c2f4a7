use Rattle.std.proofs.Common.{◌≡◌, take}
use Rattle.hem_module.specs.Plans.{lost}
use Rattle.hem_module.proofs.changes.lose_all.Given as goal

abbrev pub invariant-loop-at : goal.invariant-loop-at
invariant-loop-at l = l.queues ≡ lost l.initial.queues (take l.at-index l.losses)
