use Rattle.hem_syntax.proofs.DeclaredNames.{field_word}
use Rattle.hem_print.proofs.names.write_field_name.Goals as goal

pub write_name-requires : goal.write_name-requires
write_name-requires c = field_word c.args.p.now c.args.kind c.from.result c.in-Some.name.now c.in-Some.ensures.lawful c.in-Some.ensures.name
