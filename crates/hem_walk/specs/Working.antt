-- A walk on its way.
use Rattle.std.specs.Prelude.{ℕ, ◌≡◌, ◌<◌, ◌≤◌, ◌%◌, ◌^◌, Bool, true, false, List, [], ◌∷◌, ◌++◌, length, None, Some, Option, option_map, slice_index}
use Rattle.hem_base.specs.declared.ids.Firing.{Firing}
use Rattle.hem_syntax.specs.Protocol.{Protocol}
use Rattle.hem_tree.specs.Tree.{Tree}
use Rattle.hem_work.specs.Work.{Work}
use Rattle.hem_system.specs.State.{State, Fires, Runs, start}
use Rattle.hem_fire.specs.declared.outs.To.{To}
use Rattle.hem_system.specs.Events.{event_in}
use Rattle.hem_system.specs.Ended.{self_firings}
use Rattle.hem_bound.specs.Starts.{IsWithin}
use Rattle.hem_work.specs.Generator.{next_number, number_after, draw_of}
use Rattle.hem_walk.specs.Walk.{positions, position, ready_at, IsThere, IsTurn, IsOver, AreTurns}

-- the firings so far, the state to which they lead, the self firings at each position, and the generator's number
pub record Walking : Type 0 where
  pub system : State
  pub journal : List Firing
  pub selfs : List ℕ
  pub number : ℕ

-- at each position the self firings are counted that its object made on its line
pub record IsCounted (p : Protocol) (tree : Tree) (h : List Firing) (s : State) (selfs : List ℕ) : Type 0 where
  pub few_lines : length s < 2 ^ 32
  pub size : length selfs ≡ positions tree s
  pub each : (l o : ℕ) → IsThere tree s l o → slice_index selfs (position tree l o) ≡ self_firings p tree h l o

-- no firing is ready at the positions from one on to before another one
pub record NoneReady (p : Protocol) (tree : Tree) (k : ℕ) (h : List Firing) (s : State) (from end : ℕ) : Type 0 where
  pub none : (l o : ℕ) → IsThere tree s l o → from ≤ position tree l o → position tree l o < end → ready_at p tree k h s l o ≡ None

-- the firing is the first ready one at the first of these positions where one is ready
pub record IsFirst (p : Protocol) (tree : Tree) (k : ℕ) (h : List Firing) (s : State) (from end : ℕ) (f : Firing) : Type 0 where
  pub there : IsThere tree s f.line.0 f.object.0
  pub past : from ≤ position tree f.line.0 f.object.0
  pub within : position tree f.line.0 f.object.0 < end
  pub ready : ready_at p tree k h s f.line.0 f.object.0 ≡ Some f
  pub before : NoneReady p tree k h s from (position tree f.line.0 f.object.0)

-- where a firing in a state sends its message, where it is possible
abbrev pub sends_to : Protocol → Tree → State → Firing → Option To
sends_to p tree s f = option_map (λ event. event.outs.to) (event_in p tree s f)

-- a firing was made
pub record IsMade (p : Protocol) (tree : Tree) (f : Firing) (old new : Walking) : Type 0 where
  pub fires : Fires p tree old.system f new.system
  pub journal : new.journal ≡ old.journal ++ f ∷ []
  pub number : new.number ≡ old.number
  pub counted : IsCounted p tree new.journal new.system new.selfs

-- the draw was made, and the firing of its turn
pub record IsNext (p : Protocol) (tree : Tree) (k : ℕ) (old new : Walking) : Type 0 where
  pub firing : Firing
  pub turn : IsTurn p tree k old.journal old.system (draw_of (next_number old.number) % positions tree old.system) firing
  pub made : IsMade p tree firing (record old { number = next_number old.number }) new

-- there is no next firing, and all stays but the number
pub record IsLeft (p : Protocol) (tree : Tree) (k : ℕ) (old new : Walking) : Type 0 where
  pub over : IsOver p tree k old.journal old.system
  pub system : new.system ≡ old.system
  pub journal : new.journal ≡ old.journal

-- a turn: the next firing is made, or there is none
abbrev pub IsAfterTurn : Protocol → Tree → ℕ → Walking → Walking → Bool → Type 0
IsAfterTurn p tree k old new true = IsNext p tree k old new
IsAfterTurn p tree k old new false = IsLeft p tree k old new

-- a walk so far
pub record IsSoFar (p : Protocol) (tree : Tree) (work : Work) (seed : ℕ) (w : Walking) : Type 0 where
  pub runs : Runs p tree (start p tree work) w.journal w.system
  pub turns : AreTurns p tree work seed w.journal
  pub number : w.number ≡ number_after seed (length w.journal)
  pub counted : IsCounted p tree w.journal w.system w.selfs
  pub within : IsWithin p tree work.self_count w.journal
