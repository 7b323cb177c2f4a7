use Rattle.std.proofs.Common.{rules}
use Rattle.hem_syntax.proofs.DeclaredNames.{item_word}
use Rattle.hem_print.proofs.protocol.write_statuses.Goals as goal

pub write_name-requires : goal.write_name-requires
write_name-requires c = item_word c.args.statuses.now c.loop-name.name-index c.name-item.result c.requires c.loop-name-test.true (search rules)
