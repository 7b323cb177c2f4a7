use Rattle.hem_syntax.proofs.DeclaredNames.{message_word}
use Rattle.hem_print.proofs.names.write_message.Goals as goal

pub write_name-requires : goal.write_name-requires
write_name-requires c = message_word c.args.p.now c.args.id.0 c.in-Some.name.now c.in-Some.ensures.lawful c.in-Some.ensures.name
