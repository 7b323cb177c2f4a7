use Rattle.std.proofs.Common.{◌≡◌, ◌++◌, map, drop}
use Rattle.hem_system.specs.State.{list_at}
use Rattle.hem_translate.specs.Places.{queue_of}
use Rattle.hem_translate.specs.Lines.{line_at}
use Rattle.hem_translate.proofs.line_image.push_queues.Given as goal

-- the queues so far and those that are left are all
abbrev pub invariant-loop-queue : goal.invariant-loop-queue
invariant-loop-queue l = (l.state.regs ≡ l.fn.state.regs) × (l.state.queues ++ map (λ q. list_at (line_at l.s l.line.0) (queue_of q).object (queue_of q).lane) (drop l.queue-index l.queues) ≡ l.fn.state.queues ++ map (λ q. list_at (line_at l.s l.line.0) (queue_of q).object (queue_of q).lane) l.queues)
