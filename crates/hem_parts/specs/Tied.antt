-- When parts are tied: each is a chain of its object's firings, and what was received was sent.
use Rattle.std.specs.Prelude.{ℕ, ◌≡◌, ◌≢◌, List, [], ◌++◌, length, Option, None, Some, slice_get}
use Rattle.std.specs.Option.{option_map_or}
use Rattle.hem_base.specs.declared.ids.Message.{Message}
use Rattle.hem_base.specs.declared.ids.Carried.{Carried}
use Rattle.hem_syntax.specs.Protocol.{Protocol}
use Rattle.hem_object.specs.Local.{Local}
use Rattle.hem_tree.specs.Tree.{Tree}
use Rattle.hem_system.specs.declared.lane.Lane.{Lane}
use Rattle.hem_system.specs.declared.lane.Lane.TheVariants.{Requests}
use Rattle.hem_system.specs.State.{State, Line, local_at, list_at, taker_of, sender_of}
use Rattle.hem_trace.specs.Blocks.{Each}
use Rattle.hem_law.specs.Chains.{IsChain}
use Rattle.hem_law.specs.Flows.{all_taken}
use Rattle.hem_parts.specs.Parts.{Made, Part, Parts, events_of, messages_of, all_carried}
use Rattle.hem_parts.specs.Stamps.{AreStamped}

-- the event is made by an object on a line
pub record IsOwn (l o : ℕ) (x : Made) : Type 0 where
  pub line : x.event.firing.line.0 ≡ l
  pub object : x.event.firing.object.0 ≡ o

-- an object's part on a line: a chain of its own firings, which takes what it received and of its requests the first, and sends what it sent, with the right stamps
pub record IsPart (p : Protocol) (tree : Tree) (l o : ℕ) (start : Option Local) (requests : List Message) (part : Part) (end : Option Local) (left : List Message) : Type 0 where
  pub own : Each (IsOwn l o) part.made
  pub chain : IsChain p tree start (events_of part.made) end
  pub asks : all_taken tree o Requests (events_of part.made) ++ left ≡ requests
  pub takes : (k : ℕ) (lane : Lane) → lane ≢ Requests → taker_of tree k lane ≡ Some o → all_taken tree k lane (events_of part.made) ≡ messages_of (part.received k lane)
  pub sends : (k : ℕ) (lane : Lane) → sender_of tree k lane ≡ Some o → all_carried tree k lane part.made ≡ part.sent k lane
  pub stamps : AreStamped tree part.received 0 part.made

-- what the sender of a list sent to it; nothing, where the list has no sender
abbrev pub sent_over : Tree → (ℕ → Part) → ℕ → Lane → List Carried
sent_over tree parts k lane = option_map_or (λ o. (parts o).sent k lane) (sender_of tree k lane) []

-- what the taker of a list received from it; nothing, where the list has no taker
abbrev pub received_over : Tree → (ℕ → Part) → ℕ → Lane → List Carried
received_over tree parts k lane = option_map_or (λ o. (parts o).received k lane) (taker_of tree k lane) []

-- what was received from a list is a beginning of what was sent to it, and the rest is still there
pub record IsCarried (tree : Tree) (parts : ℕ → Part) (k : ℕ) (lane : Lane) (left : List Message) : Type 0 where
  pub waiting : List Carried
  pub whole : sent_over tree parts k lane ≡ received_over tree parts k lane ++ waiting
  pub rest : messages_of waiting ≡ left

-- the parts of a line are tied, and lead from the one line to the other
pub record AreLineParts (p : Protocol) (tree : Tree) (l : ℕ) (old : Line) (parts : ℕ → Part) (new : Line) : Type 0 where
  pub each : (o : ℕ) → IsPart p tree l o (local_at old o) (list_at old o Requests) (parts o) (local_at new o) (list_at new o Requests)
  pub carried : (k : ℕ) (lane : Lane) → lane ≢ Requests → IsCarried tree parts k lane (list_at new k lane)

-- the parts are tied, and lead from the one state to the other; on a line that isn't there nothing is made
pub record AreTied (p : Protocol) (tree : Tree) (old : State) (parts : Parts) (new : State) : Type 0 where
  pub lines : length new ≡ length old
  pub each : (l : ℕ) (line end : Line) → slice_get old l ≡ Some line → slice_get new l ≡ Some end → AreLineParts p tree l line (parts l) end
  pub none : (l o : ℕ) → slice_get old l ≡ None → (parts l o).made ≡ []
