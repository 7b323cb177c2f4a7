use Rattle.hem_syntax.proofs.DeclaredNames.{status_word}
use Rattle.hem_report.proofs.names.write_status.Goals as goal

pub name-requires : goal.name-requires
name-requires c = status_word c.args.p.now c.args.status.0 c.in-Some.name.now c.in-Some.ensures.lawful c.in-Some.ensures.name
