-- A crew: one worker for each object, joined by the channels of the tree's edges.
use Rattle.std.specs.Prelude.{ℕ, ◌≡◌, List, [], length, map, flat_map, Option, None, Some, slice_get, option_and_then}
use Rattle.std.specs.Option.{option_map_or}
use Rattle.hem_base.specs.declared.ids.Stamped.{Stamped}
use Rattle.hem_syntax.specs.Protocol.{Protocol}
use Rattle.hem_tree.specs.Tree.{Tree, below, parent_of, place_among}
use Rattle.hem_system.specs.State.{State}
use Rattle.hem_turns.specs.OnLine.{OnLine}
use Rattle.hem_worker.specs.Workers.{Worker, AreParts}
use Rattle.hem_worker.specs.Edges.{KidChannels, Channels, channels}

-- what the worker of an object has of a line
abbrev pub line_of : List Worker → ℕ → ℕ → Option OnLine
line_of crew l o = option_and_then (λ w. slice_get w.lines l) (slice_get crew o)

-- the worker is an object's, with all lines of the start and so many self firings for each, and what it did is its object's parts
pub record IsMember (p : Protocol) (tree : Tree) (start : State) (k o : ℕ) (w : Worker) : Type 0 where
  pub object : w.object.0 ≡ o
  pub self_count : w.self_count ≡ k
  pub lines : length w.lines ≡ length start
  pub parts : AreParts p tree start w

-- the channels of an object on a line, of the channels of all objects
abbrev pub channels_at : List (List Channels) → ℕ → ℕ → Option Channels
channels_at wires l o = option_and_then (λ lines. slice_get lines l) (slice_get wires o)

-- the channels of a child's edge to its parent are those of its parent's edge to it, and each has so many slots
pub record IsOneEdge (slots : ℕ) (kid : KidChannels) (low : Channels) : Type 0 where
  pub requests : low.up_requests ≡ Some kid.requests
  pub responses : low.up_responses ≡ Some kid.responses
  pub down : low.down ≡ Some kid.down
  pub request_slots : kid.requests.slots ≡ slots
  pub response_slots : kid.responses.slots ≡ slots
  pub down_slots : kid.down.slots ≡ slots

-- a parent's channels of the edge to the child at a place, and the child's own
pub record AreJoinedAt (slots place : ℕ) (up low : Channels) : Type 0 where
  pub kid : KidChannels
  pub there : slice_get up.kids place ≡ Some kid
  pub edge : IsOneEdge slots kid low

-- there is no edge upward
pub record HasNoParent (own : Channels) : Type 0 where
  pub requests : own.up_requests ≡ None
  pub responses : own.up_responses ≡ None
  pub down : own.down ≡ None

-- on each line each edge of the tree has its channels, and the root has none upward
pub record IsWired (tree : Tree) (slots : ℕ) (wires : List (List Channels)) : Type 0 where
  pub edges : (l o high : ℕ) (low up : Channels) → parent_of tree o ≡ Some high → channels_at wires l o ≡ Some low → channels_at wires l high ≡ Some up → AreJoinedAt slots (place_among tree high o) up low
  pub root : (l o : ℕ) (own : Channels) → parent_of tree o ≡ None → channels_at wires l o ≡ Some own → HasNoParent own

-- a crew: worker o is object o's, and the channels of the tree's edges join them
pub record IsCrew (p : Protocol) (tree : Tree) (start : State) (k slots : ℕ) (crew : List Worker) : Type 0 where
  pub count : length crew ≡ length tree
  pub each : (o : ℕ) (w : Worker) → slice_get crew o ≡ Some w → IsMember p tree start k o w
  pub wired : IsWired tree slots (map channels crew)

-- the journal of a worker on a line
abbrev pub journal_on : ℕ → Worker → List Stamped
journal_on l w = option_map_or (λ line. line.journal) (slice_get w.lines l) []

-- the journals of a crew: line after line, and on each line object after object
abbrev pub journals_of : ℕ → List Worker → List (List Stamped)
journals_of lines crew = flat_map (λ l. map (journal_on l) crew) (below lines)
