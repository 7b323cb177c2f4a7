use Rattle.hem_syntax.proofs.DeclaredNames.{pair_word}
use Rattle.hem_print.proofs.protocol.write_message_at.Goals as goal

pub write_message_line-requires : goal.write_message_line-requires
write_message_line-requires c = pair_word c.args.messages.now c.args.place c.in-Some.name.now c.requires c.in-Some.ensures
