-- Why a history is not replayed.
use Rattle.std.specs.Prelude.{List}
use Rattle.hem_base.specs.declared.ids.Firing.{Firing}
use Rattle.hem_syntax.specs.Protocol.{Protocol}
use Rattle.hem_tree.specs.Tree.{Tree}
use Rattle.hem_system.specs.declared.history.ReplayFault.{ReplayFault}
use Rattle.hem_system.specs.declared.history.ReplayFault.TheVariants.{Illegal, OutOfMemory}
use Rattle.hem_system.specs.State.{State}
use Rattle.hem_system.specs.Replays.{IsIllegal}

-- a history is refused where a firing is not possible, with its place and the state before it, unless memory ran out
abbrev pub IsReplayFault : Protocol → Tree → State → List Firing → ReplayFault → Type 0
IsReplayFault p tree old h (Illegal place now) = IsIllegal p tree old h place now
IsReplayFault p tree old h OutOfMemory = Unit {0}
