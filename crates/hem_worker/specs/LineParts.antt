-- What an object did on a line, as a part.
use Rattle.std.specs.Prelude.{ℕ, ◌≡◌, ◌≢◌, ◌≤◌, List, [], length, map, Option, Some, slice_get}
use Rattle.std.specs.Option.{option_map_or}
use Rattle.hem_base.specs.declared.ids.Kind.{Kind}
use Rattle.hem_base.specs.declared.ids.ObjectId.{ObjectId}
use Rattle.hem_base.specs.declared.ids.Message.{Message}
use Rattle.hem_base.specs.declared.ids.Carried.{Carried}
use Rattle.hem_syntax.specs.Protocol.{Protocol}
use Rattle.hem_object.specs.Local.{Local}
use Rattle.hem_tree.specs.Tree.{Tree, kind_of, children_of, place_among}
use Rattle.hem_system.specs.declared.lane.Lane.{Lane}
use Rattle.hem_system.specs.declared.lane.Lane.TheVariants.{UpRequests, UpResponses, Down, Requests, Answers}
use Rattle.hem_system.specs.State.{taker_of, sender_of}
use Rattle.hem_system.specs.Ended.{self_firings}
use Rattle.hem_parts.specs.Parts.{Part, messages_of}
use Rattle.hem_parts.specs.Stamps.{last_stamp}
use Rattle.hem_parts.specs.Merged.{stamped_of}
use Rattle.hem_parts.specs.Tied.{IsPart}
use Rattle.hem_ends.specs.Ends.{Kid, Ends, IfThere}
use Rattle.hem_turns.specs.OnLine.{OnLine, asked}

-- where an object stands in the tree: its kind, and its children in order
pub record Stands (tree : Tree) (object : ObjectId) (kind : Kind) (children : List ObjectId) : Type 0 where
  pub kind_is : kind_of tree object.0 ≡ Some kind
  pub children_are : map (λ id. id.0) children ≡ children_of tree object.0

-- what an object's ends received from a list from which it takes, by the list's owner and lane
abbrev pub received_by : Tree → ℕ → Ends → ℕ → Lane → List Carried
received_by tree o ends k UpRequests = option_map_or (λ kid. kid.requests.received) (slice_get ends.kids (place_among tree o k)) []
received_by tree o ends k UpResponses = option_map_or (λ kid. kid.responses.received) (slice_get ends.kids (place_among tree o k)) []
received_by tree o ends k Down = option_map_or (λ getting. getting.received) ends.down []
received_by tree o ends k Requests = []
received_by tree o ends k Answers = []

-- what they know to wait in it
abbrev pub known_by : Tree → ℕ → Ends → ℕ → Lane → List Carried
known_by tree o ends k UpRequests = option_map_or (λ kid. kid.requests.known) (slice_get ends.kids (place_among tree o k)) []
known_by tree o ends k UpResponses = option_map_or (λ kid. kid.responses.known) (slice_get ends.kids (place_among tree o k)) []
known_by tree o ends k Down = option_map_or (λ getting. getting.known) ends.down []
known_by tree o ends k Requests = []
known_by tree o ends k Answers = []

-- what an object's ends sent to a list to which it sends
abbrev pub sent_by : Tree → ℕ → Ends → ℕ → Lane → List Carried
sent_by tree o ends k UpRequests = option_map_or (λ giving. giving.sent) ends.up_requests []
sent_by tree o ends k UpResponses = option_map_or (λ giving. giving.sent) ends.up_responses []
sent_by tree o ends k Down = option_map_or (λ kid. kid.down.sent) (slice_get ends.kids (place_among tree o k)) []
sent_by tree o ends k Requests = []
sent_by tree o ends k Answers = []

-- what an object did on a line is its part of it: the journal has the part's firings and the ends what it received and sent, and of self firings there are at most so many
pub record HasPart (p : Protocol) (tree : Tree) (self_count l o : ℕ) (start : Option Local) (requests : List Message) (line : OnLine) : Type 0 where
  pub part : Part
  pub is : IsPart p tree l o start requests part (Some line.local) (asked line)
  pub journal : map stamped_of part.made ≡ line.journal
  pub last : last_stamp 0 part.made ≡ line.last
  pub received : (k : ℕ) (lane : Lane) → lane ≢ Requests → taker_of tree k lane ≡ Some o → part.received k lane ≡ received_by tree o line.ends k lane
  pub sent : (k : ℕ) (lane : Lane) → lane ≢ Answers → sender_of tree k lane ≡ Some o → part.sent k lane ≡ sent_by tree o line.ends k lane
  pub answers : messages_of (part.sent o Answers) ≡ line.answers
  pub kids : length line.ends.kids ≡ length (children_of tree o)
  pub selfs : self_firings p tree (map (λ s. s.firing) line.journal) l o ≡ line.selfs
  pub few : line.selfs ≤ self_count

-- nothing was sent or received over these ends
pub record AreUnused (ends : Ends) : Type 0 where
  pub up_requests : IfThere (λ giving. giving.sent ≡ []) ends.up_requests
  pub up_responses : IfThere (λ giving. giving.sent ≡ []) ends.up_responses
  pub down : IfThere (λ getting. getting.received ≡ []) ends.down
  pub requests : (i : ℕ) (kid : Kid) → slice_get ends.kids i ≡ Some kid → kid.requests.received ≡ []
  pub responses : (i : ℕ) (kid : Kid) → slice_get ends.kids i ≡ Some kid → kid.responses.received ≡ []
  pub kids : (i : ℕ) (kid : Kid) → slice_get ends.kids i ≡ Some kid → kid.down.sent ≡ []

-- a line on which an object did nothing yet, with so many children's ends
pub record IsNew (children : ℕ) (line : OnLine) : Type 0 where
  pub taken : line.taken ≡ 0
  pub answers : line.answers ≡ []
  pub journal : line.journal ≡ []
  pub last : line.last ≡ 0
  pub selfs : line.selfs ≡ 0
  pub kids : length line.ends.kids ≡ children
  pub ends : AreUnused line.ends
