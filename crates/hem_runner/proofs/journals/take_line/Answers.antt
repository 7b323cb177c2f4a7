use Rattle.std.proofs.Common.{arith}
use Rattle.hem_runner.proofs.TakenOut.{taken-more, line-done}
use Rattle.hem_runner.proofs.journals.take_line.Goals as goal

pub loop-at-preserved : goal.loop-at-preserved
loop-at-preserved g c = taken-more c.args.line c.loop-at.at c.args.journals.now c.loop-at.journals c.push.new.self c.take_at-journal.result c.args.crew.now c.loop-at.crew c.take_at-journal.new.crew c.loop-at.invariant c.take_at-journal.ensures.journal c.take_at-journal.ensures.taken c.in_ok-push.ensures.ok

pub returns-clause-taken : goal.returns-clause-taken
returns-clause-taken g c = line-done c.args.line c.loop-at.at c.args.journals.now c.loop-at.journals c.args.crew.now c.loop-at.crew (omega arith) c.loop-at.invariant
