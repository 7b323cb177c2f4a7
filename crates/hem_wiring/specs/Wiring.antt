-- How the channels of the tree's edges are made on a line, and how a line is added to each worker.
use Rattle.std.specs.Prelude.{ℕ, ◌≡◌, ◌+◌, ◌^◌, ◌<◌, List, [], ◌∷◌, ◌++◌, length, None, Some, slice_get, slice_set}
use Rattle.hem_base.specs.declared.ids.Message.{Message}
use Rattle.hem_syntax.specs.Protocol.{Protocol}
use Rattle.hem_tree.specs.Tree.{Tree, parent_of, place_among}
use Rattle.hem_wire.specs.Seen.{Giving, Getting}
use Rattle.hem_ends.specs.Ends.{Kid, Ends}
use Rattle.hem_worker.specs.LineParts.{Stands, AreUnused}
use Rattle.hem_worker.specs.Workers.{Worker, IsAdded}
use Rattle.hem_worker.specs.Edges.{KidChannels, channels_of}
use Rattle.hem_crew.specs.Crew.{IsOneEdge, AreJoinedAt, HasNoParent}

-- the two ends of a new channel with so many slots
pub record IsChannel (slots : ℕ) (giving : Giving) (getting : Getting) : Type 0 where
  pub same : giving.channel ≡ getting.channel
  pub slots_are : getting.channel.slots ≡ slots
  pub sent : giving.sent ≡ []
  pub received : getting.received ≡ []

-- the channels of the edge to a child
abbrev pub kid_channels : Kid → KidChannels
kid_channels kid = record { requests = kid.requests.channel; responses = kid.responses.channel; down = kid.down.channel }

-- the ends of a new edge: the parent's, and those of a child without children yet
pub record IsNewEdge (slots : ℕ) (kid : Kid) (low : Ends) : Type 0 where
  pub edge : IsOneEdge slots (kid_channels kid) (channels_of low)
  pub requests : kid.requests.received ≡ []
  pub responses : kid.responses.received ≡ []
  pub down : kid.down.sent ≡ []
  pub unused : AreUnused low
  pub kids : low.kids ≡ []

-- an object has the ends of a new edge more, after those of its other children
pub record IsJoined (slots : ℕ) (old new low : Ends) : Type 0 where
  pub kid : Kid
  pub edge : IsNewEdge slots kid low
  pub after : new ≡ record old { kids = old.kids ++ kid ∷ [] }

-- the same of the object at a place, and no other changes
pub record IsJoinedAt (slots place : ℕ) (old new : List Ends) (low : Ends) : Type 0 where
  pub up : Ends
  pub next : Ends
  pub there : slice_get old place ≡ Some up
  pub joined : IsJoined slots up next low
  pub after : new ≡ slice_set old place next

-- the ends of the first n objects on a line: nothing went over them, and each edge between two of these objects has its channels
pub record AreEnds (tree : Tree) (slots n : ℕ) (row : List Ends) : Type 0 where
  pub count : length row ≡ n
  pub unused : (o : ℕ) (own : Ends) → slice_get row o ≡ Some own → AreUnused own
  pub kids : (o : ℕ) (own : Ends) → slice_get row o ≡ Some own → length own.kids ≡ place_among tree o n
  pub edges : (o high : ℕ) (low up : Ends) → parent_of tree o ≡ Some high → slice_get row o ≡ Some low → slice_get row high ≡ Some up → AreJoinedAt slots (place_among tree high o) (channels_of up) (channels_of low)
  pub root : (o : ℕ) (own : Ends) → parent_of tree o ≡ None → slice_get row o ≡ Some own → HasNoParent (channels_of own)

-- an object's worker without lines
pub record IsBare (tree : Tree) (k o : ℕ) (w : Worker) : Type 0 where
  pub object : w.object.0 ≡ o
  pub self_count : w.self_count ≡ k
  pub lines : w.lines ≡ []
  pub stands : Stands tree w.object w.kind w.children

-- the workers of the first n objects, without lines
pub record AreBare (tree : Tree) (k n : ℕ) (crew : List Worker) : Type 0 where
  pub count : length crew ≡ n
  pub each : (o : ℕ) (w : Worker) → slice_get crew o ≡ Some w → IsBare tree k o w

-- a worker can take a line with these ends
pub record CanTake (own : Ends) (w : Worker) : Type 0 where
  pub few : length w.lines + 1 < 2 ^ 32
  pub kids : length own.kids ≡ length w.children
  pub unused : AreUnused own

-- each worker has a line more, with its object's requests and ends
pub record AreLinesAdded (p : Protocol) (requests : ℕ → List Message) (row : List Ends) (old new : List Worker) : Type 0 where
  pub count : length new ≡ length old
  pub each : (o : ℕ) (own : Ends) (a b : Worker) → slice_get row o ≡ Some own → slice_get old o ≡ Some a → slice_get new o ≡ Some b → IsAdded p (requests o) own a b
