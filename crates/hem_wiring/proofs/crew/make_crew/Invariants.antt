use Rattle.hem_system.specs.State.{start}
use Rattle.hem_crew.specs.Crew.{IsCrew}
use Rattle.hem_wiring.proofs.crew.make_crew.Given as goal

abbrev pub invariant-loop-line : goal.invariant-loop-line
invariant-loop-line g l = IsCrew l.p l.tree (start l.p l.tree (record l.work { lines = l.line })) l.work.self_count l.slots l.crew
