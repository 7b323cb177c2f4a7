-- The edge between an object and a child on a line, and what settling it does.
use Rattle.std.specs.Prelude.{ℕ, ◌≡◌, ◌≤◌, List, Option, Some, None, slice_get, slice_set}
use Rattle.hem_wire.specs.Channel.{open_slots, IsSettled}
use Rattle.hem_wire.specs.Seen.{Giving, Getting}
use Rattle.hem_ends.specs.Ends.{Kid, Ends, IfThere, IsPeeked, IsReserved}

-- both ends of a channel know all that the other end did
abbrev pub KnowEachOther : Giving → Getting → Type 0
KnowEachOther giving getting = IsSettled giving.channel.slots giving.sent giving.free giving.reserved getting.received getting.known

-- the two ends of a channel before and after a settle
pub record IsPairSettled (old new : Giving) (before after : Getting) : Type 0 where
  pub gives : IsReserved old new
  pub gets : IsPeeked before after
  pub reserved : new.reserved ≡ old.reserved
  pub settled : KnowEachOther new after

-- the same where the child may have no sending end, and no receiving end; nothing changes then
abbrev pub IsUpSettled : Option Giving → Option Giving → Getting → Getting → Type 0
IsUpSettled None None before after = after ≡ before
IsUpSettled (Some old) (Some new) before after = IsPairSettled old new before after
IsUpSettled None (Some new) before after = ⊥
IsUpSettled (Some old) None before after = ⊥

abbrev pub IsDownSettled : Giving → Giving → Option Getting → Option Getting → Type 0
IsDownSettled old new None None = new ≡ old
IsDownSettled old new (Some before) (Some after) = IsPairSettled old new before after
IsDownSettled old new None (Some after) = ⊥
IsDownSettled old new (Some before) None = ⊥

-- the ends of a child's edge and the child's own ends are of the same channels
pub record IsEdge (kid : Kid) (lower : Ends) : Type 0 where
  pub requests : IfThere (λ giving. giving.channel ≡ kid.requests.channel) lower.up_requests
  pub responses : IfThere (λ giving. giving.channel ≡ kid.responses.channel) lower.up_responses
  pub down : IfThere (λ getting. kid.down.channel ≡ getting.channel) lower.down

-- the channels between them are settled, and the child's own children's ends stay
pub record IsKidSettled (kid next : Kid) (lower low : Ends) : Type 0 where
  pub requests : IsUpSettled lower.up_requests low.up_requests kid.requests next.requests
  pub responses : IsUpSettled lower.up_responses low.up_responses kid.responses next.responses
  pub down : IsDownSettled kid.down next.down lower.down low.down
  pub kids : low.kids ≡ lower.kids

-- the edge to the child at a place is settled, and those to the other children stay
pub record IsEdgeSettled (place : ℕ) (old new : List Kid) (lower low : Ends) : Type 0 where
  pub kid : Kid
  pub next : Kid
  pub there : slice_get old place ≡ Some kid
  pub settled : IsKidSettled kid next lower low
  pub after : new ≡ slice_set old place next
