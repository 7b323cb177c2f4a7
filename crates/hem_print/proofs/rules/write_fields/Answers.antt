use Rattle.std.proofs.Common.{rules}
use Rattle.hem_syntax.proofs.DeclaredNames.{item_pair_word}
use Rattle.hem_print.proofs.rules.write_fields.Goals as goal

pub write_field-requires : goal.write_field-requires
write_field-requires c = item_pair_word c.args.fields.now c.loop-name.name-index c.loop-name-item.result c.requires c.loop-name-test.true (search rules)
