use Rattle.std.proofs.Common.{◌∙◌}
use Rattle.hem_emit.specs.Names.{same_reg, same_queue}
use Rattle.hem_translate.specs.Places.{reg_of, queue_of}
use Rattle.hem_translate.proofs.Found.{reg_alike, queue_alike}
use Rattle.hem_translate.proofs.Apart.{apart_by}
use Rattle.hem_translate.proofs.site.Places.of.Goals as goal

pub set_of-requires : goal.set_of-requires
set_of-requires c = apart_by _ same_reg reg_of reg_alike c.args.regs.now ∙ c.requires.regs

pub set_of-requires-2 : goal.set_of-requires-2
set_of-requires-2 c = apart_by _ same_queue queue_of queue_alike c.args.queues.now ∙ c.requires.queues
