use Rattle.hem_worker.proofs.Settled.{ArePairsSoFar}
use Rattle.hem_worker.proofs.edge.settle_all.Given as goal

abbrev pub invariant-loop-line : goal.invariant-loop-line
invariant-loop-line g l = ArePairsSoFar l.place l.line l.fn.upper l.upper l.fn.lower l.lower
