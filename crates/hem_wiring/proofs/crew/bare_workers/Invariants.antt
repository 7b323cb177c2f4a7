use Rattle.hem_wiring.specs.Wiring.{AreBare}
use Rattle.hem_wiring.proofs.crew.bare_workers.Given as goal

abbrev pub invariant-loop-o : goal.invariant-loop-o
invariant-loop-o g l = AreBare l.tree l.self_count l.o l.crew
