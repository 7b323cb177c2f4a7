use Rattle.hem_runner.proofs.TakenOut.{AreLinesTaken}
use Rattle.hem_runner.proofs.journals.take_journals.Given as goal

abbrev pub invariant-loop-line : goal.invariant-loop-line
invariant-loop-line g l = AreLinesTaken l.line l.journals l.fn.crew l.crew
