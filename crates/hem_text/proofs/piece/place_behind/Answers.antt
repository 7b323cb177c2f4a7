use Rattle.hem_text.proofs.Columns.{behind_plain}
use Rattle.hem_text.proofs.piece.place_behind.Goals as goal

pub returns-else-bytes-eq10-clause-same : goal.returns-else-bytes-eq10-clause-same
returns-else-bytes-eq10-clause-same c = behind_plain c.args.bytes.now c.args.place c.args.len c.requires.some c.requires.piece c.requires.within c.if-bytes-eq10.false
