-- The edge between two workers, and what settling it does.
use Rattle.std.specs.Prelude.{ℕ, ◌≡◌, List, map, length, Option, Some, slice_get, option_map}
use Rattle.hem_wire.specs.Channel.{Channel}
use Rattle.hem_ends.specs.Ends.{Kid, Ends, BothOrNeither, IsPeeked, IsReserved, AreKids}
use Rattle.hem_ends.specs.Edges.{IsEdge, IsEdgeSettled}
use Rattle.hem_turns.specs.OnLine.{OnLine}
use Rattle.hem_worker.specs.Workers.{Worker}

-- the channels of the edge to a child
pub record KidChannels : Type 0 where
  pub requests : Channel
  pub responses : Channel
  pub down : Channel

-- the channels of an object's edges on a line
pub record Channels : Type 0 where
  pub up_requests : Option Channel
  pub up_responses : Option Channel
  pub down : Option Channel
  pub kids : List KidChannels

abbrev pub channels_of : Ends → Channels
channels_of ends =
    record {
      up_requests = option_map (λ giving. giving.channel) ends.up_requests;
      up_responses = option_map (λ giving. giving.channel) ends.up_responses;
      down = option_map (λ getting. getting.channel) ends.down;
      kids = map (λ kid. record { requests = kid.requests.channel; responses = kid.responses.channel; down = kid.down.channel }) ends.kids;
    }

-- the channels of a worker's edges, by line
abbrev pub channels : Worker → List Channels
channels w = map (λ line. channels_of line.ends) w.lines

-- nothing went through a child's ends, and they know of no less
pub record IsKidStill (old new : Kid) : Type 0 where
  pub requests : IsPeeked old.requests new.requests
  pub responses : IsPeeked old.responses new.responses
  pub down : IsReserved old.down new.down

-- nothing went through an object's ends, and they know of no less
pub record AreStill (old new : Ends) : Type 0 where
  pub up_requests : BothOrNeither IsReserved old.up_requests new.up_requests
  pub up_responses : BothOrNeither IsReserved old.up_responses new.up_responses
  pub down : BothOrNeither IsPeeked old.down new.down
  pub kids : AreKids (λ k. IsKidStill) old.kids new.kids

-- on a line nothing is done, and what the ends know grows
pub record IsLineStill (old new : OnLine) : Type 0 where
  pub same : new ≡ record old { ends = new.ends }
  pub ends : AreStill old.ends new.ends

-- on each line the ends of the edge to the child at a place and the child's own ends are of the same channels
abbrev pub AreJoined : ℕ → List OnLine → List OnLine → Type 0
AreJoined place upper lower = (l : ℕ) (high low : OnLine) (kid : Kid) → slice_get upper l ≡ Some high → slice_get lower l ≡ Some low → slice_get high.ends.kids place ≡ Some kid → IsEdge kid low.ends

-- on a line the edge to the child at a place is settled
pub record IsLineSettled (place : ℕ) (high high_next low low_next : OnLine) : Type 0 where
  pub upper : IsLineStill high high_next
  pub lower : IsLineStill low low_next
  pub edge : IsEdgeSettled place high.ends.kids high_next.ends.kids low.ends low_next.ends

-- on each line the edge to the child at a place is settled
pub record AreSettled (place : ℕ) (upper upper_next lower lower_next : List OnLine) : Type 0 where
  pub upper_count : length upper_next ≡ length upper
  pub lower_count : length lower_next ≡ length lower
  pub each : (l : ℕ) (high high_next low low_next : OnLine) → slice_get upper l ≡ Some high → slice_get upper_next l ≡ Some high_next → slice_get lower l ≡ Some low → slice_get lower_next l ≡ Some low_next → IsLineSettled place high high_next low low_next
