-- Settling the edges of a crew.
use Rattle.std.specs.Prelude.{ℕ, ◌≡◌, ◌<◌, List, length, Some, slice_get, slice_set}
use Rattle.hem_syntax.specs.Protocol.{Protocol}
use Rattle.hem_tree.specs.Tree.{Tree, parent_of, place_among}
use Rattle.hem_system.specs.State.{State}
use Rattle.hem_wire.specs.Seen.{Giving, Getting}
use Rattle.hem_ends.specs.Ends.{Kid}
use Rattle.hem_turns.specs.OnLine.{OnLine}
use Rattle.hem_worker.specs.Workers.{Worker, AreChanged}
use Rattle.hem_worker.specs.Edges.{AreJoined, AreSettled}
use Rattle.hem_crew.specs.Crew.{IsCrew, line_of}
use Rattle.hem_crew.specs.Knowing.{KnowAll, KnowNoMore, OnChannels}
use Rattle.hem_crew.specs.Rounds.{IsKept, IsStill}

-- a crew of the tree, whatever it began with
pub record IsCrewOf (tree : Tree) (crew : List Worker) : Type 0 where
  pub p : Protocol
  pub begun : State
  pub k : ℕ
  pub slots : ℕ
  pub is : IsCrew p tree begun k slots crew

-- a worker and the worker of its object's child at a place: as many lines, and ends of the same channels
pub record FitTogether (place : ℕ) (high low : Worker) : Type 0 where
  pub there : place < length high.children
  pub lines : length low.lines ≡ length high.lines
  pub joined : AreJoined place high.lines low.lines

-- the edge between them is settled, and both stay what they were
pub record AreSettledTogether (place : ℕ) (high high_next low low_next : Worker) : Type 0 where
  pub settled : AreSettled place high.lines high_next.lines low.lines low_next.lines
  pub upper : (p : Protocol) → IsKept p high high_next
  pub lower : (p : Protocol) → IsKept p low low_next

-- so of the workers at two places of a crew
pub record IsSettledAt (place upper lower : ℕ) (old new : List Worker) : Type 0 where
  pub high : Worker
  pub high_next : Worker
  pub low : Worker
  pub low_next : Worker
  pub high_there : slice_get old upper ≡ Some high
  pub low_there : slice_get old lower ≡ Some low
  pub settled : AreSettledTogether place high high_next low low_next
  pub after : new ≡ slice_set (slice_set old upper high_next) lower low_next

-- a fact of the two ends of each channel of some edges, given by the child and its parent
abbrev pub OnSome : (ℕ → ℕ → Type 0) → Tree → List Worker → (Giving → Getting → Type 0) → Type 0
OnSome Which tree crew Know = (l o high : ℕ) (low up : OnLine) (kid : Kid) → Which o high → parent_of tree o ≡ Some high → line_of crew l o ≡ Some low → line_of crew l high ≡ Some up → slice_get up.ends.kids (place_among tree high o) ≡ Some kid → OnChannels Know kid low.ends

-- some edges are settled: no worker does anything, after it their ends know all, and before it they knew no more
pub record AreSettledFor (Which : ℕ → ℕ → Type 0) (tree : Tree) (old new : List Worker) : Type 0 where
  pub still : (p : Protocol) → AreChanged (λ o. IsStill p) old new
  pub after : OnSome Which tree new KnowAll
  pub before : OnSome Which tree old KnowNoMore
