use Rattle.std.proofs.Common.{sym}
use Rattle.hem_document.proofs.FaultsInTurn.{none_left}
use Rattle.hem_document.proofs.reading.ended.Goals as goal

pub returns-in-None-clause-ok : goal.returns-in-None-clause-ok
returns-in-None-clause-ok g c = none_left c.args.cursor.now.tokens (sym c.in-None.ensures)
