-- How the replay of a history ends.
use Rattle.std.specs.Prelude.{ℕ, ◌≡◌, List, take, Option, Some, None, slice_get}
use Rattle.hem_base.specs.declared.ids.Firing.{Firing}
use Rattle.hem_syntax.specs.Protocol.{Protocol}
use Rattle.hem_tree.specs.Tree.{Tree}
use Rattle.hem_system.specs.State.{State, Runs, fire}

-- the firings before the place lead to the state, in which the one at the place is not possible
pub record IsIllegal (p : Protocol) (tree : Tree) (old : State) (h : List Firing) (place : ℕ) (now : State) : Type 0 where
  pub firing : Firing
  pub there : slice_get h place ≡ Some firing
  pub runs : Runs p tree old (take place h) now
  pub stops : fire p tree now firing ≡ None

-- the whole history leads to the state, or the firing at the place is the first that is not possible, in that state
abbrev pub IsReplay : Protocol → Tree → State → List Firing → Option ℕ → State → Type 0
IsReplay p tree old h None now = Runs p tree old h now
IsReplay p tree old h (Some place) now = IsIllegal p tree old h place now
