use Rattle.hem_worker.proofs.RoundsRun.{emptied-worker}
use Rattle.hem_worker.proofs.worker.Worker.take_journal.Goals as goal

pub invariant_of-self : goal.invariant_of-self
invariant_of-self g c = emptied-worker c.self.inside.children c.take_journal_at.result c.args.line c.self.inside.lines c.take_journal_at.new.lines c.take_journal_at.ensures c.self.invariant
