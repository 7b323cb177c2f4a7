-- How a part grows by one event.
use Rattle.std.specs.Prelude.{ℕ, ◌≡◌, ◌≢◌, List, [], ◌∷◌, ◌++◌, Option, Some, None, cond, map, take, slice_get, option_map, option_and_then}
use Rattle.hem_base.specs.declared.ids.Message.{Message}
use Rattle.hem_base.specs.declared.ids.Carried.{Carried}
use Rattle.hem_base.specs.declared.ids.Firing.{Firing}
use Rattle.hem_base.specs.declared.ids.ObjectId.{ObjectId}
use Rattle.hem_fire.specs.declared.outs.Outs.{Outs}
use Rattle.hem_syntax.specs.Protocol.{Protocol}
use Rattle.hem_object.specs.Local.{Local}
use Rattle.hem_tree.specs.Tree.{Tree, children_of, place_among}
use Rattle.hem_fire.specs.OneFire.{Heads}
use Rattle.hem_system.specs.declared.lane.Lane.{Lane}
use Rattle.hem_system.specs.declared.lane.Lane.TheVariants.{UpRequests, UpResponses, Down, Requests, Answers}
use Rattle.hem_system.specs.State.{Effect, takes, taker_of}
use Rattle.hem_system.specs.Events.{Event, event_of}
use Rattle.hem_law.specs.Chains.{ChainStep}
use Rattle.hem_law.specs.Flows.{taken_on}
use Rattle.hem_parts.specs.Parts.{Made, Part, messages_of, carried_on}
use Rattle.hem_parts.specs.Stamps.{IsStamp, last_stamp}
use Rattle.hem_parts.specs.Tied.{IsOwn}

-- a part at its start
abbrev pub empty_part : Part
empty_part = record { made = []; sent = λ k lane. []; received = λ k lane. [] }

-- a part after one more event, which receives these messages from the lists
abbrev pub lengthened : Tree → Part → Made → (ℕ → Lane → List Carried) → Part
lengthened tree part x taken =
    record {
      made = part.made ++ x ∷ [];
      sent = λ k lane. part.sent k lane ++ carried_on tree k lane x;
      received = λ k lane. part.received k lane ++ taken k lane;
    }

-- an event that can be the next of an object's part: it is possible in the local state in which the part ends, takes these messages and of the requests that are left the first or none, and has the right stamp
pub record IsNext (p : Protocol) (tree : Tree) (l o : ℕ) (part : Part) (end : Option Local) (left : List Message) (x : Made) (taken : ℕ → Lane → List Carried) (next : Local) (rest : List Message) : Type 0 where
  pub own : IsOwn l o x
  pub fires : ChainStep p tree end x.event next
  pub asks : taken_on tree o Requests x.event ++ rest ≡ left
  pub takes : (k : ℕ) (lane : Lane) → lane ≢ Requests → taker_of tree k lane ≡ Some o → messages_of (taken k lane) ≡ taken_on tree k lane x.event
  pub stamp : IsStamp tree taken (last_stamp 0 part.made) x.event x.stamp

-- the head of a list, among those of an object's input lists
abbrev pub head_among : Tree → ℕ → Heads → ℕ → Lane → Option Message
head_among tree o heads k UpRequests = heads.request
head_among tree o heads k UpResponses = option_and_then (λ head. head) (slice_get heads.kids (place_among tree o k))
head_among tree o heads k Down = heads.parent
head_among tree o heads k Requests = heads.request
head_among tree o heads k Answers = None

-- the first message, if there is one
abbrev pub first_message : List Carried → Option Message
first_message carried = option_map (λ c. c.message) (slice_get carried 0)

-- the first request of the named child, or else of the processor
abbrev pub first_request : List Message → (ℕ → Lane → List Carried) → Option ObjectId → Option Message
first_request requests waiting None = slice_get requests 0
first_request requests waiting (Some child) = first_message (waiting child.0 UpRequests)

-- the heads of an object's input lists, where these requests and these messages wait
abbrev pub heads_from : Tree → List Message → (ℕ → Lane → List Carried) → ℕ → Option ObjectId → Heads
heads_from tree requests waiting o me =
    record {
      request = first_request requests waiting me;
      parent = first_message (waiting o Down);
      kids = map (λ k. first_message (waiting k UpResponses)) (children_of tree o);
    }

-- what a firing takes of the messages that wait
abbrev pub taken_from : Tree → Firing → Outs → (ℕ → Lane → List Carried) → ℕ → Lane → List Carried
taken_from tree f outs waiting k lane = cond (takes tree f outs k lane) (take 1 (waiting k lane)) []
