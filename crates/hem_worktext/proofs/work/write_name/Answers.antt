use Rattle.hem_syntax.proofs.DeclaredNames.{message_word}
use Rattle.hem_worktext.proofs.work.write_name.Goals as goal

pub name-requires : goal.name-requires
name-requires c = message_word c.args.p.now c.args.id.0 c.in-Some.name.now c.in-Some.ensures.lawful c.in-Some.ensures.name
