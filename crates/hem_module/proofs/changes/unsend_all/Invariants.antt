use Rattle.std.proofs.Common.{◌≡◌, List, take}
use Rattle.hem_base.specs.declared.ids.Message.{Message}
use Rattle.hem_module.specs.Plans.{sent}
use Rattle.hem_module.proofs.changes.unsend_all.Given as goal

abbrev pub invariant-loop-place : goal.invariant-loop-place
invariant-loop-place l = (before : List (List Message)) → l.initial.queues ≡ sent before l.sends → l.queues ≡ sent before (take l.place l.sends)
