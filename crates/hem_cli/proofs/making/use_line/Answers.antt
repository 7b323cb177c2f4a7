use Rattle.hem_output.proofs.Ascii.{word_utf8}
use Rattle.hem_cli.proofs.making.use_line.Goals as goal

pub unreachable-requires : goal.unreachable-requires
unreachable-requires c = c.in-Err.ensures.cases.0 (word_utf8 c.args.name.now c.requires)
