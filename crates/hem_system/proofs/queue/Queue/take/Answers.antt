use Rattle.std.proofs.Common.{◌∙◌, ap, drop, arith}
use Rattle.hem_system.specs.Queues.{Queue}
use Rattle.hem_system.proofs.Queues.{taken_one, taken_all}
use Rattle.hem_system.proofs.queue.Queue.take.Goals as goal

pub returns-then-some_left-clause-left : goal.returns-then-some_left-clause-left
returns-then-some_left-clause-left c =
    taken_one c.self.inside.taken c.self.inside.items.items ∙ ap (λ (q : Queue). drop 1 q.messages) c.self.view_is

pub returns-else-some_left-clause-left : goal.returns-else-some_left-clause-left
returns-else-some_left-clause-left c =
    c.clear.ensures.items ∙ taken_all c.self.inside.taken c.self.inside.items.items (omega arith) ∙ ap (λ (q : Queue). drop 1 q.messages) c.self.view_is
