use Rattle.hem_syntax.proofs.DeclaredNames.{rule_word}
use Rattle.hem_print.proofs.names.write_rule_name.Goals as goal

pub write_name-requires : goal.write_name-requires
write_name-requires c = rule_word c.args.p.now c.args.id.0 c.in-Some.name.now c.in-Some.ensures.lawful c.in-Some.ensures.name
