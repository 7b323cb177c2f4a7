use Rattle.std.proofs.Common.{sym}
use Rattle.hem_cli.proofs.making.protocol_part.Goals as goal

pub use_line-requires : goal.use_line-requires
use_line-requires c = c.requires.word c.in-Some.name.now (sym c.in-Some.ensures)
