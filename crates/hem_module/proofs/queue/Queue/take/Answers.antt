use Rattle.std.proofs.Common.{◌∙◌, ap, drop, arith}
use Rattle.hem_module.proofs.Lists.{taken_one, taken_all}
use Rattle.hem_module.proofs.queue.Queue.take.Goals as goal

pub returns-then-some_left : goal.returns-then-some_left
returns-then-some_left c = taken_one c.self.inside.taken c.self.inside.items.items ∙ ap (drop 1) c.self.view_is

pub returns-else-some_left : goal.returns-else-some_left
returns-else-some_left c = c.clear.ensures.items ∙ taken_all c.self.inside.taken c.self.inside.items.items (omega arith) ∙ ap (drop 1) c.self.view_is
