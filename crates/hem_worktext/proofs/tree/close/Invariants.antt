use Rattle.std.proofs.Common.{◌≡◌, ◌++◌}
use Rattle.std.specs.Prelude.{replicate}
use Rattle.hem_worktext.proofs.tree.close.Given as goal

abbrev pub invariant-loop : goal.invariant-loop
invariant-loop l = l.output ≡ l.initial.output ++ replicate l.counter 41
