use Rattle.std.proofs.Common.{◌≡◌, take}
use Rattle.hem_module.specs.Plans.{sent}
use Rattle.hem_module.proofs.changes.send_all.Given as goal

abbrev pub invariant-loop-place : goal.invariant-loop-place
invariant-loop-place l = l.queues ≡ sent l.initial.queues (take l.place l.sends)
