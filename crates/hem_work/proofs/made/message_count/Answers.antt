use Rattle.std.proofs.Common.{◌∙◌, ap, arith, length}
use Rattle.hem_work.proofs.made.message_count.Goals as goal

pub overflow_cast-result : goal.overflow_cast-result
overflow_cast-result c = let same = ap length c.messages.ensures in omega (arith, c.part-root.ensures.lawful.few_messages, c.len.ensures, same)

pub returns : goal.returns
returns c = c.len.ensures ∙ ap length c.messages.ensures
