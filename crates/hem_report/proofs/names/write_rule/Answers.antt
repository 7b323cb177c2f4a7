use Rattle.hem_syntax.proofs.DeclaredNames.{rule_word}
use Rattle.hem_report.proofs.names.write_rule.Goals as goal

pub name-requires : goal.name-requires
name-requires c = rule_word c.args.p.now c.args.rule.0 c.in-Some.name.now c.in-Some.ensures.lawful c.in-Some.ensures.name
