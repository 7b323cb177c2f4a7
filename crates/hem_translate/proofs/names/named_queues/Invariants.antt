use Rattle.std.proofs.Common.{◌≡◌, map, take}
use Rattle.hem_emit.specs.Written.{name_of_queue}
use Rattle.hem_translate.specs.Places.{queue_of}
use Rattle.hem_translate.proofs.names.named_queues.Given as goal

-- the names so far
abbrev pub invariant-loop-queue : goal.invariant-loop-queue
invariant-loop-queue l = l.names ≡ map (λ q. name_of_queue (queue_of q)) (take l.queue-index l.queues)
