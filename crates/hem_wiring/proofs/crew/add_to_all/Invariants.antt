use Rattle.std.proofs.Common.{vec_len}
use Rattle.hem_work.specs.Work.{requests_of}
use Rattle.hem_wiring.proofs.Added.{AreAddedAfter}
use Rattle.hem_wiring.proofs.crew.add_to_all.Given as goal

abbrev pub invariant-loop-own : goal.invariant-loop-own
invariant-loop-own g l = AreAddedAfter l.p (requests_of l.work l.line.0) l.fn.row l.left.items l.fn.crew l.crew

abbrev pub decreases-loop-own : goal.decreases-loop-own
decreases-loop-own g l = vec_len l.left
