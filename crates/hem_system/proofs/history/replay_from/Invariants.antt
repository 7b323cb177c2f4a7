use Rattle.std.proofs.Common.{take}
use Rattle.hem_system.specs.State.{Runs}
use Rattle.hem_system.proofs.history.replay_from.Given as goal

-- the firings so far lead to the state now
abbrev pub invariant-loop-place : goal.invariant-loop-place
invariant-loop-place l = Runs l.p l.tree l.fn.system (take l.place l.history) l.system
