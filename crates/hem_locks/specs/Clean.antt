-- What the invariant of locks says of the lists of an edge, of the objects below a request that is taken, and of a line on which nothing is under way.
use Rattle.std.specs.Prelude.{ℕ, ◌≡◌, ◌≤◌, List, [], ◌∷◌, length, Some, None, slice_get}
use Rattle.hem_object.specs.declared.state.By.TheVariants.{Kid}
use Rattle.hem_object.specs.declared.state.Lock.{Lock}
use Rattle.hem_tree.specs.Tree.{Tree, parent_of, place_among}
use Rattle.hem_system.specs.State.{Cell, Line}

-- the lists of an object's edge to its parent are short
pub record AreFew (cell : Cell) : Type 0 where
  pub up_requests : length cell.up_requests ≤ 1
  pub up_responses : length cell.up_responses ≤ 1
  pub down : length cell.down ≤ 2

-- an object waits for an answer from its parent, and nothing of its parent's stands with it: its uplock is held, its downlock is free, nothing is under way to it, and no response of it is under way
pub record IsClean (cell : Cell) : Type 0 where
  pub uplock : (lock : Lock) × (cell.local.up ≡ Some lock)
  pub downlock : cell.local.down ≡ None
  pub down : cell.down ≡ []
  pub up_responses : cell.up_responses ≡ []

-- the object of that number is so
abbrev pub IsCleanAt : Line → ℕ → Type 0
IsCleanAt line o = (cell : Cell) → slice_get line o ≡ Some cell → IsClean cell

-- an object's uplock is held for its child low
pub record WorksFor (tree : Tree) (line : Line) (high low : ℕ) : Type 0 where
  pub parent : parent_of tree low ≡ Some high
  pub cell : Cell
  pub there : slice_get line high ≡ Some cell
  pub lock : Lock
  pub up : cell.local.up ≡ Some lock
  pub holder : lock.by ≡ Kid (place_among tree high low)

-- each object of a list works for the next
abbrev pub AreInLine : Tree → Line → ℕ → List ℕ → Type 0
AreInLine tree line high [] = Unit {0}
AreInLine tree line high (low ∷ lows) = WorksFor tree line high low × AreInLine tree line low lows

-- all objects of a list are clean
abbrev pub AreCleanAt : Line → List ℕ → Type 0
AreCleanAt line [] = Unit {0}
AreCleanAt line (o ∷ os) = IsCleanAt line o × AreCleanAt line os

-- an object from which and to which nothing is under way on its edge
pub record IsStill (cell : Cell) : Type 0 where
  pub up_requests : cell.up_requests ≡ []
  pub up_responses : cell.up_responses ≡ []
  pub down : cell.down ≡ []

-- nothing is under way on a line
pub record LineIsStill (line : Line) : Type 0 where
  pub object : (o : ℕ) (cell : Cell) → slice_get line o ≡ Some cell → IsStill cell

-- an object that holds no lock
pub record HoldsNone (cell : Cell) : Type 0 where
  pub uplock : cell.local.up ≡ None
  pub downlock : cell.local.down ≡ None
