use Rattle.hem_syntax.proofs.DeclaredNames.{field_word}
use Rattle.hem_report.proofs.names.write_field_name.Goals as goal

pub name-requires : goal.name-requires
name-requires c = field_word c.args.p.now c.args.kind c.args.place c.in-Some.name.now c.in-Some.ensures.lawful c.in-Some.ensures.name
