-- What an object's ends received and sent, along a look and a firing.
use Rattle.std.proofs.Common.{◌≡◌, refl, ap, sym, ◌∙◌, ℕ, Bool, true, false, cond, List, [], ◌∷◌, ◌++◌, take, Option, Some, None, inl, inr, ◌⊎◌}
use Rattle.std.specs.Prelude.{slice_get}
use Rattle.std.specs.Option.{option_map_or}
use Rattle.hem_base.specs.Sets.{has_bit}
use Rattle.hem_base.specs.declared.ids.KidSet.{KidSet}
use Rattle.hem_base.specs.declared.ids.Carried.{Carried}
use Rattle.hem_fire.specs.declared.outs.To.{To}
use Rattle.hem_tree.specs.Tree.{Tree, place_among}
use Rattle.hem_system.specs.declared.lane.Lane.{Lane}
use Rattle.hem_system.specs.declared.lane.Lane.TheVariants.{UpRequests, UpResponses, Down, Requests, Answers}
use Rattle.hem_wire.specs.Seen.{Giving, Getting}
use Rattle.hem_ends.specs.Ends.{Kid, Ends, BothOrNeither, IsPeeked, IsReserved, IsTaken, IsGiven, AreKids, IsKidLooked, IsKidTaken, IsKidGiven, IsLooked, AreTaken, AreGiven, is_place, goes_down, goes_up_request, goes_up_response}
use Rattle.hem_parts.proofs.AllRun.{there-too, none-too}
use Rattle.hem_worker.specs.LineParts.{received_by, known_by, sent_by}
use Rattle.hem_worker.specs.Edges.{IsKidStill, AreStill}

-- a child's ends before and after, or none at both times
abbrev pub IsPair : (ℕ → Kid → Kid → Type 0) → List Kid → List Kid → ℕ → Type 0
IsPair Change old new i = ((slice_get old i ≡ None) × (slice_get new i ≡ None)) ⊎ ((a : Kid) × (b : Kid) × (slice_get old i ≡ Some a) × (slice_get new i ≡ Some b) × Change i a b)

pub pair-at : (Change : ℕ → Kid → Kid → Type 0) (old new : List Kid) (i : ℕ) → AreKids Change old new → IsPair Change old new i
pair-at Change old new i kids = by_old (slice_get old i) refl
  where
    by_old : (found : Option Kid) → slice_get old i ≡ found → IsPair Change old new i
    by_old None at = inl (at, none-too old new i kids.count at)
    by_old (Some a) at = let b = there-too old new i a kids.count at in inr (a, b.0, at, b.1, kids.each i a b.0 at b.1)

-- what is the same for each child is the same at a place
kids-same : (Change : ℕ → Kid → Kid → Type 0) (F : Kid → List Carried) (old new : List Kid) (i : ℕ) → ((a b : Kid) → Change i a b → F b ≡ F a) → AreKids Change old new → option_map_or F (slice_get new i) [] ≡ option_map_or F (slice_get old i) []
kids-same Change F old new i keeps kids = by_pair (pair-at Change old new i kids)
  where
    by_pair : IsPair Change old new i → option_map_or F (slice_get new i) [] ≡ option_map_or F (slice_get old i) []
    by_pair (inl none) = ap (λ o. option_map_or F o []) (none.1 ∙ sym none.0)
    by_pair (inr it) = ap (λ o. option_map_or F o []) it.3 ∙ keeps it.0 it.1 it.4 ∙ sym (ap (λ o. option_map_or F o []) it.2)

-- nothing is taken of nothing
none-taken : (b : Bool) (cs : List Carried) → cs ≡ [] → cs ≡ cs ++ cond b (take 1 cs) []
none-taken true [] is = refl
none-taken false [] is = refl
none-taken b (c ∷ cs) is = cc

kids-longer : (Change : ℕ → Kid → Kid → Type 0) (F K : Kid → List Carried) (flag : Bool) (old new : List Kid) (i : ℕ) → ((a b : Kid) → Change i a b → F b ≡ F a ++ cond flag (take 1 (K a)) []) → AreKids Change old new → option_map_or F (slice_get new i) [] ≡ option_map_or F (slice_get old i) [] ++ cond flag (take 1 (option_map_or K (slice_get old i) [])) []
kids-longer Change F K flag old new i longer kids = by_pair (pair-at Change old new i kids)
  where
    by_pair : IsPair Change old new i → option_map_or F (slice_get new i) [] ≡ option_map_or F (slice_get old i) [] ++ cond flag (take 1 (option_map_or K (slice_get old i) [])) []
    by_pair (inl none) = ap (λ o. option_map_or F o []) none.1 ∙ none-taken flag [] refl ∙ sym (ap (λ o. option_map_or F o [] ++ cond flag (take 1 (option_map_or K o [])) []) none.0)
    by_pair (inr it) = ap (λ o. option_map_or F o []) it.3 ∙ longer it.0 it.1 it.4 ∙ sym (ap (λ o. option_map_or F o [] ++ cond flag (take 1 (option_map_or K o [])) []) it.2)

-- nothing goes through an end
peeked-received : (a b : Option Getting) → BothOrNeither IsPeeked a b → option_map_or (λ (g : Getting). g.received) b [] ≡ option_map_or (λ (g : Getting). g.received) a []
peeked-received None None is = refl
peeked-received (Some a) (Some b) is = is.received
peeked-received None (Some b) is = elim is [ ]
peeked-received (Some a) None is = elim is [ ]

reserved-sent : (a b : Option Giving) → BothOrNeither IsReserved a b → option_map_or (λ (g : Giving). g.sent) b [] ≡ option_map_or (λ (g : Giving). g.sent) a []
reserved-sent None None is = refl
reserved-sent (Some a) (Some b) is = is.sent
reserved-sent None (Some b) is = elim is [ ]
reserved-sent (Some a) None is = elim is [ ]

-- a look
looked-kid : (old new : Kid) → IsKidLooked old new → IsKidStill old new
looked-kid old new is = record { requests = is.requests; responses = is.responses; down = is.down }

pub looked-still : (old new : Ends) → IsLooked old new → AreStill old new
looked-still old new looked = record { up_requests = looked.up_requests; up_responses = looked.up_responses; down = looked.down; kids = record { count = looked.kids.count; each = λ k a b here there. looked-kid a b (looked.kids.each k a b here there) } }

pub still-received : (tree : Tree) (o : ℕ) (old new : Ends) → AreStill old new → (k : ℕ) (lane : Lane) → received_by tree o new k lane ≡ received_by tree o old k lane
still-received tree o old new still k UpRequests = kids-same (λ k. IsKidStill) (λ kid. kid.requests.received) old.kids new.kids (place_among tree o k) (λ a b is. is.requests.received) still.kids
still-received tree o old new still k UpResponses = kids-same (λ k. IsKidStill) (λ kid. kid.responses.received) old.kids new.kids (place_among tree o k) (λ a b is. is.responses.received) still.kids
still-received tree o old new still k Down = peeked-received old.down new.down still.down
still-received tree o old new still k Requests = refl
still-received tree o old new still k Answers = refl

pub still-sent : (tree : Tree) (o : ℕ) (old new : Ends) → AreStill old new → (k : ℕ) (lane : Lane) → sent_by tree o new k lane ≡ sent_by tree o old k lane
still-sent tree o old new still k UpRequests = reserved-sent old.up_requests new.up_requests still.up_requests
still-sent tree o old new still k UpResponses = reserved-sent old.up_responses new.up_responses still.up_responses
still-sent tree o old new still k Down = kids-same (λ k. IsKidStill) (λ kid. kid.down.sent) old.kids new.kids (place_among tree o k) (λ a b is. is.down.sent) still.kids
still-sent tree o old new still k Requests = refl
still-sent tree o old new still k Answers = refl

-- whether a firing takes from a list, by what it takes of the ends
abbrev pub takes_by : Tree → ℕ → Bool → Option ℕ → KidSet → ℕ → Lane → Bool
takes_by tree o parent me responses k UpRequests = is_place me (place_among tree o k)
takes_by tree o parent me responses k UpResponses = has_bit responses.0 (place_among tree o k)
takes_by tree o parent me responses k Down = parent
takes_by tree o parent me responses k Requests = false
takes_by tree o parent me responses k Answers = false

down-received : (parent : Bool) (a b : Option Getting) → BothOrNeither (IsTaken parent) a b → option_map_or (λ (g : Getting). g.received) b [] ≡ option_map_or (λ (g : Getting). g.received) a [] ++ cond parent (take 1 (option_map_or (λ (g : Getting). g.known) a [])) []
down-received parent None None is = none-taken parent [] refl
down-received parent (Some a) (Some b) is = is.received
down-received parent None (Some b) is = elim is [ ]
down-received parent (Some a) None is = elim is [ ]

pub taken-received : (tree : Tree) (o : ℕ) (parent : Bool) (me : Option ℕ) (responses : KidSet) (old new : Ends) → AreTaken parent me responses old new → (k : ℕ) (lane : Lane) → received_by tree o new k lane ≡ received_by tree o old k lane ++ cond (takes_by tree o parent me responses k lane) (take 1 (known_by tree o old k lane)) []
taken-received tree o parent me responses old new taken k UpRequests = kids-longer (λ k. IsKidTaken (is_place me k) (has_bit responses.0 k)) (λ kid. kid.requests.received) (λ kid. kid.requests.known) (is_place me (place_among tree o k)) old.kids new.kids (place_among tree o k) (λ a b is. is.requests.received) taken.kids
taken-received tree o parent me responses old new taken k UpResponses = kids-longer (λ k. IsKidTaken (is_place me k) (has_bit responses.0 k)) (λ kid. kid.responses.received) (λ kid. kid.responses.known) (has_bit responses.0 (place_among tree o k)) old.kids new.kids (place_among tree o k) (λ a b is. is.responses.received) taken.kids
taken-received tree o parent me responses old new taken k Down = down-received parent old.down new.down taken.down
taken-received tree o parent me responses old new taken k Requests = refl
taken-received tree o parent me responses old new taken k Answers = refl

pub given-received : (tree : Tree) (o : ℕ) (to : To) (c : Carried) (old new : Ends) → AreGiven to c old new → (k : ℕ) (lane : Lane) → received_by tree o new k lane ≡ received_by tree o old k lane
given-received tree o to c old new given k UpRequests = kids-same (λ k. IsKidGiven (goes_down to k) c) (λ kid. kid.requests.received) old.kids new.kids (place_among tree o k) (λ a b is. ap (λ (g : Getting). g.received) is.requests) given.kids
given-received tree o to c old new given k UpResponses = kids-same (λ k. IsKidGiven (goes_down to k) c) (λ kid. kid.responses.received) old.kids new.kids (place_among tree o k) (λ a b is. ap (λ (g : Getting). g.received) is.responses) given.kids
given-received tree o to c old new given k Down = ap (λ down. option_map_or (λ (g : Getting). g.received) down []) given.down
given-received tree o to c old new given k Requests = refl
given-received tree o to c old new given k Answers = refl

pub taken-sent : (tree : Tree) (o : ℕ) (parent : Bool) (me : Option ℕ) (responses : KidSet) (old new : Ends) → AreTaken parent me responses old new → (k : ℕ) (lane : Lane) → sent_by tree o new k lane ≡ sent_by tree o old k lane
taken-sent tree o parent me responses old new taken k UpRequests = ap (λ end. option_map_or (λ (g : Giving). g.sent) end []) taken.up_requests
taken-sent tree o parent me responses old new taken k UpResponses = ap (λ end. option_map_or (λ (g : Giving). g.sent) end []) taken.up_responses
taken-sent tree o parent me responses old new taken k Down = kids-same (λ k. IsKidTaken (is_place me k) (has_bit responses.0 k)) (λ kid. kid.down.sent) old.kids new.kids (place_among tree o k) (λ a b is. ap (λ (g : Giving). g.sent) is.down) taken.kids
taken-sent tree o parent me responses old new taken k Requests = refl
taken-sent tree o parent me responses old new taken k Answers = refl

-- whether a firing sends to a list, by what it puts into the ends
abbrev pub sends_by : Tree → ℕ → To → ℕ → Lane → Bool
sends_by tree o to k UpRequests = goes_up_request to
sends_by tree o to k UpResponses = goes_up_response to
sends_by tree o to k Down = goes_down to (place_among tree o k)
sends_by tree o to k Requests = false
sends_by tree o to k Answers = false

-- an end is there wherever a message goes up
pub record HasEnds (to : To) (ends : Ends) : Type 0 where
  pub request : goes_up_request to ≡ true → option_map_or (λ (g : Giving). g.reserved) ends.up_requests false ≡ true
  pub response : goes_up_response to ≡ true → option_map_or (λ (g : Giving). g.reserved) ends.up_responses false ≡ true

up-sent : (flag : Bool) (c : Carried) (a b : Option Giving) → (flag ≡ true → option_map_or (λ (g : Giving). g.reserved) a false ≡ true) → BothOrNeither (IsGiven flag c) a b → option_map_or (λ (g : Giving). g.sent) b [] ≡ option_map_or (λ (g : Giving). g.sent) a [] ++ cond flag (c ∷ []) []
up-sent true c None None there is = let clash : false ≡ true = there refl in cc
up-sent false c None None there is = refl
up-sent flag c (Some a) (Some b) there is = is.sent
up-sent flag c None (Some b) there is = elim is [ ]
up-sent flag c (Some a) None there is = elim is [ ]

down-sent : (to : To) (c : Carried) (old new : List Kid) (i : ℕ) (kid : Kid) → slice_get old i ≡ Some kid → AreKids (λ k. IsKidGiven (goes_down to k) c) old new → option_map_or (λ (kid : Kid). kid.down.sent) (slice_get new i) [] ≡ option_map_or (λ (kid : Kid). kid.down.sent) (slice_get old i) [] ++ cond (goes_down to i) (c ∷ []) []
down-sent to c old new i kid at kids = by_pair (pair-at (λ k. IsKidGiven (goes_down to k) c) old new i kids)
  where
    by_pair : IsPair (λ k. IsKidGiven (goes_down to k) c) old new i → option_map_or (λ (kid : Kid). kid.down.sent) (slice_get new i) [] ≡ option_map_or (λ (kid : Kid). kid.down.sent) (slice_get old i) [] ++ cond (goes_down to i) (c ∷ []) []
    by_pair (inl none) = let clash : None ≡ Some kid = sym none.0 ∙ at in cc
    by_pair (inr it) = ap (λ o. option_map_or (λ (kid : Kid). kid.down.sent) o []) it.3 ∙ it.4.down.sent ∙ sym (ap (λ o. option_map_or (λ (kid : Kid). kid.down.sent) o [] ++ cond (goes_down to i) (c ∷ []) []) it.2)

pub given-sent : (tree : Tree) (o : ℕ) (to : To) (c : Carried) (old new : Ends) → HasEnds to old → AreGiven to c old new → (k : ℕ) (lane : Lane) → (lane ≡ Down → (kid : Kid) × (slice_get old.kids (place_among tree o k) ≡ Some kid)) → sent_by tree o new k lane ≡ sent_by tree o old k lane ++ cond (sends_by tree o to k lane) (c ∷ []) []
given-sent tree o to c old new ends given k UpRequests there = up-sent (goes_up_request to) c old.up_requests new.up_requests ends.request given.up_requests
given-sent tree o to c old new ends given k UpResponses there = up-sent (goes_up_response to) c old.up_responses new.up_responses ends.response given.up_responses
given-sent tree o to c old new ends given k Down there = let kid = there refl in down-sent to c old.kids new.kids (place_among tree o k) kid.0 kid.1 given.kids
given-sent tree o to c old new ends given k Requests there = refl
given-sent tree o to c old new ends given k Answers there = refl
