use Rattle.hem_wiring.specs.Wiring.{AreEnds}
use Rattle.hem_wiring.proofs.edges.all_ends.Given as goal

abbrev pub invariant-loop-o : goal.invariant-loop-o
invariant-loop-o g l = AreEnds l.tree l.slots l.o l.row
