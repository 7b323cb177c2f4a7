use Rattle.std.proofs.Common.{rules}
use Rattle.hem_syntax.proofs.DeclaredNames.{item_word}
use Rattle.hem_modprint.proofs.modules.write_queues.Goals as goal

pub write_queue_line-requires : goal.write_queue_line-requires
write_queue_line-requires c = item_word c.args.queues.now c.loop-name.name-index c.name-item.result c.requires c.loop-name-test.true (search rules)
