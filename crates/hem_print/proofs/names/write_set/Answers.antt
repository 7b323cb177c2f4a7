use Rattle.std.proofs.Common.{rules}
use Rattle.hem_syntax.proofs.DeclaredNames.{item_word}
use Rattle.hem_print.proofs.names.write_set.Goals as goal

pub write_name-requires : goal.write_name-requires
write_name-requires c = item_word c.statuses_of-name-items.result.now c.loop-place.place c.name-item.result c.statuses_of-name-items.ensures.declarable c.loop-place-test.true (search rules)
