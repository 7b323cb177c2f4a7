use Rattle.std.proofs.Common.{◌≡◌, ◌++◌, drop}
use Rattle.std.specs.Prelude.{map}
use Rattle.hem_merge.proofs.merging.firings_of.Given as goal

abbrev pub invariant-loop-stamped : goal.invariant-loop-stamped
invariant-loop-stamped l = l.history.items ++ map (λ s. s.firing) (drop l.stamped-index l.all) ≡ map (λ s. s.firing) l.all
