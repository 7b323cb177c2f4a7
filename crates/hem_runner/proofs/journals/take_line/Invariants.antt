use Rattle.hem_runner.proofs.TakenOut.{AreTakenSoFar}
use Rattle.hem_runner.proofs.journals.take_line.Given as goal

abbrev pub invariant-loop-at : goal.invariant-loop-at
invariant-loop-at g l = AreTakenSoFar l.line l.at l.fn.journals l.journals l.fn.crew l.crew
