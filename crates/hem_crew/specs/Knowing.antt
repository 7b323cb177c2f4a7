-- What the two ends of a channel know of each other, for the channels of all edges of a crew.
use Rattle.std.specs.Prelude.{ℕ, ◌≡◌, ◌+◌, ◌≤◌, List, ◌++◌, length, Some, slice_get}
use mathlib.Core.List.{IsPrefix}
use Rattle.hem_base.specs.declared.ids.Carried.{Carried}
use Rattle.hem_tree.specs.Tree.{Tree, parent_of, place_among}
use Rattle.hem_wire.specs.Channel.{open_slots}
use Rattle.hem_wire.specs.Seen.{Giving, Getting}
use Rattle.hem_ends.specs.Ends.{Kid, Ends, IfThere}
use Rattle.hem_turns.specs.OnLine.{OnLine}
use Rattle.hem_worker.specs.Workers.{Worker}
use Rattle.hem_crew.specs.Crew.{line_of}

-- the ends know of all that waits, and of all slots beside it
pub record KnowAll (giving : Giving) (getting : Getting) : Type 0 where
  pub waiting : List Carried
  pub all : giving.sent ≡ getting.received ++ waiting
  pub known : IsPrefix waiting getting.known
  pub slots : giving.channel.slots ≤ open_slots giving.free giving.reserved + length waiting

-- the ends know of no more than what waits, and of no more slots than those beside it
pub record KnowNoMore (giving : Giving) (getting : Getting) : Type 0 where
  pub waiting : List Carried
  pub all : giving.sent ≡ getting.received ++ waiting
  pub known : IsPrefix getting.known waiting
  pub slots : open_slots giving.free giving.reserved + length waiting ≤ giving.channel.slots

-- a fact of the two ends of each of an edge's three channels
pub record OnChannels (Know : Giving → Getting → Type 0) (kid : Kid) (low : Ends) : Type 0 where
  pub requests : IfThere (λ giving. Know giving kid.requests) low.up_requests
  pub responses : IfThere (λ giving. Know giving kid.responses) low.up_responses
  pub down : IfThere (λ getting. Know kid.down getting) low.down

-- a fact of the two ends of each channel of each edge of the tree, on each line
abbrev pub OnEdges : Tree → List Worker → (Giving → Getting → Type 0) → Type 0
OnEdges tree crew Know = (l o high : ℕ) (low up : OnLine) (kid : Kid) → parent_of tree o ≡ Some high → line_of crew l o ≡ Some low → line_of crew l high ≡ Some up → slice_get up.ends.kids (place_among tree high o) ≡ Some kid → OnChannels Know kid low.ends
