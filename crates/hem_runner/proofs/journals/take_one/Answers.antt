use Rattle.hem_runner.proofs.TakenOut.{journal-is, line-taken}
use Rattle.hem_runner.proofs.journals.take_one.Goals as goal

pub returns-clause-journal : goal.returns-clause-journal
returns-clause-journal g c = journal-is c.args.line c.args.worker.now c.take_journal.new.self c.take_journal.result c.take_journal.ensures.journal

pub returns-clause-taken : goal.returns-clause-taken
returns-clause-taken g c = line-taken c.args.line c.args.worker.now c.take_journal.new.self c.take_journal.result c.take_journal.ensures.journal
