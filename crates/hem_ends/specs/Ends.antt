-- The ends that an object has of the channels on a line, what it knows by them, and what a firing does with them.
use Rattle.std.specs.Prelude.{ℕ, ◌≡◌, ◌+◌, ◌<◌, ◌≤◌, ◌==◌, Bool, true, false, cond, List, [], ◌∷◌, ◌++◌, length, map, take, drop, Option, None, Some, slice_get, slice_set}
use Rattle.std.specs.Option.{option_map_or}
use mathlib.Core.List.{IsPrefix}
use Rattle.hem_base.specs.Sets.{has_bit}
use Rattle.hem_base.specs.declared.ids.Carried.{Carried}
use Rattle.hem_base.specs.declared.ids.KidSet.{KidSet}
use Rattle.hem_fire.specs.declared.outs.To.{To}
use Rattle.hem_fire.specs.declared.outs.To.TheVariants as to
use Rattle.hem_wire.specs.Channel.{open_slots}
use Rattle.hem_wire.specs.Seen.{Giving, Getting}
use Rattle.hem_ends.specs.declared.kids.KidLook.{KidLook}

-- the ends of the edge to a child: where its requests and its responses come from, and where messages to it go
pub record Kid : Type 0 where
  pub requests : Getting
  pub responses : Getting
  pub down : Giving

-- an object's ends on a line: of the edge to its parent, where it has one, and of the edge to each child, in order
pub record Ends : Type 0 where
  pub up_requests : Option Giving
  pub up_responses : Option Giving
  pub down : Option Getting
  pub kids : List Kid

-- the first message that is known to wait
abbrev pub head_of : Getting → Option Carried
head_of getting = slice_get getting.known 0

-- what is known of the edge to a child
abbrev pub kid_look : Kid → KidLook
kid_look kid = record { request = head_of kid.requests; response = head_of kid.responses; is_open = kid.down.reserved }

-- what an object knows of its edges: the parent's first message, where its own messages to the parent may go, and of each child's edge
pub record Look : Type 0 where
  pub parent : Option Carried
  pub up_request : Bool
  pub up_response : Bool
  pub kids : List KidLook

-- what is known of all edges
abbrev pub look_of : Ends → Look
look_of ends =
    record {
      parent = option_map_or head_of ends.down None;
      up_request = option_map_or (λ giving. giving.reserved) ends.up_requests false;
      up_response = option_map_or (λ giving. giving.reserved) ends.up_responses false;
      kids = map kid_look ends.kids;
    }

-- nothing went through the end, and it knows of all messages that it knew of
pub record IsPeeked (old new : Getting) : Type 0 where
  pub channel : new.channel ≡ old.channel
  pub received : new.received ≡ old.received
  pub known : IsPrefix old.known new.known

-- nothing went through the end, and it may fill as many slots as before at least
pub record IsReserved (old new : Giving) : Type 0 where
  pub channel : new.channel ≡ old.channel
  pub sent : new.sent ≡ old.sent
  pub slots : open_slots old.free old.reserved ≤ open_slots new.free new.reserved

-- the end took its first known message, or none
pub record IsTaken (taken : Bool) (old new : Getting) : Type 0 where
  pub channel : new.channel ≡ old.channel
  pub received : new.received ≡ old.received ++ cond taken (take 1 old.known) []
  pub known : IsPrefix (drop (cond taken 1 0) old.known) new.known

-- the message was put into the end, or nothing
pub record IsGiven (given : Bool) (c : Carried) (old new : Giving) : Type 0 where
  pub channel : new.channel ≡ old.channel
  pub sent : new.sent ≡ old.sent ++ cond given (c ∷ []) []
  pub slots : open_slots old.free old.reserved ≤ open_slots new.free new.reserved + cond given 1 0

-- where the end has no slot reserved it knows of no free one
abbrev pub IsAsked : Giving → Type 0
IsAsked giving = giving.reserved ≡ false → giving.free ≡ 0

-- a message is known, where one is wanted
abbrev pub HasHead : Bool → Getting → Type 0
HasHead wanted getting = wanted ≡ true → 0 < length getting.known

-- a slot is reserved, where one is wanted
abbrev pub HoldsSlot : Bool → Giving → Type 0
HoldsSlot wanted giving = wanted ≡ true → giving.reserved ≡ true

-- a fact of an end that may not be there
abbrev pub IfThere : {A : Type 0} → (A → Type 0) → Option A → Type 0
IfThere Fact None = Unit {0}
IfThere Fact (Some a) = Fact a

-- an end is there before and after, with this between, or neither time
abbrev pub BothOrNeither : {A : Type 0} → (A → A → Type 0) → Option A → Option A → Type 0
BothOrNeither Change None None = Unit {0}
BothOrNeither Change (Some a) (Some b) = Change a b
BothOrNeither Change None (Some b) = ⊥
BothOrNeither Change (Some a) None = ⊥

-- as many children as before, and of each, by its place, this between
pub record AreKids (Change : ℕ → Kid → Kid → Type 0) (old new : List Kid) : Type 0 where
  pub count : length new ≡ length old
  pub each : (k : ℕ) (a b : Kid) → slice_get old k ≡ Some a → slice_get new k ≡ Some b → Change k a b

-- a child's ends after a look, after taking, and after giving
pub record IsKidLooked (old new : Kid) : Type 0 where
  pub requests : IsPeeked old.requests new.requests
  pub responses : IsPeeked old.responses new.responses
  pub down : IsReserved old.down new.down
  pub asked : IsAsked new.down

pub record IsKidTaken (request response : Bool) (old new : Kid) : Type 0 where
  pub requests : IsTaken request old.requests new.requests
  pub responses : IsTaken response old.responses new.responses
  pub down : new.down ≡ old.down

pub record IsKidGiven (given : Bool) (c : Carried) (old new : Kid) : Type 0 where
  pub requests : new.requests ≡ old.requests
  pub responses : new.responses ≡ old.responses
  pub down : IsGiven given c old.down new.down

-- the object's ends after a look
pub record IsLooked (old new : Ends) : Type 0 where
  pub up_requests : BothOrNeither IsReserved old.up_requests new.up_requests
  pub up_responses : BothOrNeither IsReserved old.up_responses new.up_responses
  pub down : BothOrNeither IsPeeked old.down new.down
  pub kids : AreKids (λ k. IsKidLooked) old.kids new.kids
  pub asked_requests : IfThere IsAsked new.up_requests
  pub asked_responses : IfThere IsAsked new.up_responses

-- whether the child at this place is the named one, and whether it is in the set
abbrev pub is_place : Option ℕ → ℕ → Bool
is_place me k = option_map_or (λ place. place == k) me false

-- whether something goes down to the child at this place
abbrev pub goes_down : To → ℕ → Bool
goes_down (to.Kid place) k = place == k
goes_down (to.Kids set) k = has_bit set.0 k
goes_down _ k = false

-- whether something goes up, as a request and as a response
abbrev pub goes_up_request : To → Bool
goes_up_request to.UpRequest = true
goes_up_request _ = false

abbrev pub goes_up_response : To → Bool
goes_up_response to.UpResponse = true
goes_up_response _ = false

-- the messages that a firing takes are known: of the parent, the request of the child that it names, and responses of children
pub record HasHeads (parent : Bool) (me : Option ℕ) (responses : KidSet) (ends : Ends) : Type 0 where
  pub down : IfThere (HasHead parent) ends.down
  pub requests : (k : ℕ) (kid : Kid) → slice_get ends.kids k ≡ Some kid → HasHead (is_place me k) kid.requests
  pub kids : (k : ℕ) (kid : Kid) → slice_get ends.kids k ≡ Some kid → HasHead (has_bit responses.0 k) kid.responses

-- the object's ends after these were taken
pub record AreTaken (parent : Bool) (me : Option ℕ) (responses : KidSet) (old new : Ends) : Type 0 where
  pub up_requests : new.up_requests ≡ old.up_requests
  pub up_responses : new.up_responses ≡ old.up_responses
  pub down : BothOrNeither (IsTaken parent) old.down new.down
  pub kids : AreKids (λ k. IsKidTaken (is_place me k) (has_bit responses.0 k)) old.kids new.kids

-- a slot is reserved wherever a message goes
pub record HoldsSlots (to : To) (ends : Ends) : Type 0 where
  pub up_requests : IfThere (HoldsSlot (goes_up_request to)) ends.up_requests
  pub up_responses : IfThere (HoldsSlot (goes_up_response to)) ends.up_responses
  pub kids : (k : ℕ) (kid : Kid) → slice_get ends.kids k ≡ Some kid → HoldsSlot (goes_down to k) kid.down

-- the object's ends after a message was sent
pub record AreGiven (to : To) (c : Carried) (old new : Ends) : Type 0 where
  pub up_requests : BothOrNeither (IsGiven (goes_up_request to) c) old.up_requests new.up_requests
  pub up_responses : BothOrNeither (IsGiven (goes_up_response to) c) old.up_responses new.up_responses
  pub down : new.down ≡ old.down
  pub kids : AreKids (λ k. IsKidGiven (goes_down to k) c) old.kids new.kids

-- one child's ends are changed so, and no other's
pub record IsKidChanged (Change : Kid → Kid → Type 0) (k : ℕ) (old new : List Kid) : Type 0 where
  pub kid : Kid
  pub next : Kid
  pub there : slice_get old k ≡ Some kid
  pub changed : Change kid next
  pub after : new ≡ slice_set old k next
