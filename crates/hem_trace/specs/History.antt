-- What the firings of a history take and send, and to which transaction each belongs.
use Rattle.std.specs.Prelude.{ℕ, ◌==◌, ◌+◌, Bool, ◌&&◌, cond, List, [], ◌∷◌, ◌++◌, map, take, Option, None, Some, slice_get, filter, count_by, flat_map, option_and_then, option_to_list}
use Rattle.hem_base.specs.Sets.{has_bit}
use Rattle.hem_base.specs.declared.ids.Message.{Message}
use Rattle.hem_base.specs.declared.ids.Firing.{Firing}
use Rattle.hem_system.specs.declared.lane.Lane.{Lane}
use Rattle.hem_system.specs.declared.lane.Lane.TheVariants.{UpRequests, UpResponses, Down, Requests, Answers}
use Rattle.hem_syntax.specs.Protocol.{Protocol}
use Rattle.hem_tree.specs.Tree.{Tree, children_of, place_among}
use Rattle.hem_system.specs.State.{State, Line, step_of, line_step_of, takes, sends, reaches}
use Rattle.hem_system.specs.Events.{Event, event_of}

-- the events of a history from a state, as far as it is possible
abbrev pub events : Protocol → Tree → State → List Firing → List Event
events p tree s [] = []
events p tree s (f ∷ h) =
    elim (step_of p tree s f) [
      | None ↦ []
      | Some step ↦ event_of f step.effect ∷ events p tree step.next h
    ]

-- the events of firings on a line, as far as they are possible
abbrev pub line_events : Protocol → Tree → Line → List Firing → List Event
line_events p tree line [] = []
line_events p tree line (f ∷ h) =
    elim (line_step_of p tree line f) [
      | None ↦ []
      | Some step ↦ event_of f step.effect ∷ line_events p tree step.next h
    ]

-- a list of the state, by line, object and lane; all but the requests are channels
pub record Channel : Type 0 where
  pub line : ℕ
  pub object : ℕ
  pub lane : Lane

-- the messages that an event appends to a channel
abbrev pub sent_by : Tree → Channel → Event → List Message
sent_by tree c e = cond (e.firing.line.0 == c.line) (sends tree e.firing e.outs c.object c.lane) []

-- whether an event takes the head of a channel
abbrev pub takes_from : Tree → Channel → Event → Bool
takes_from tree c e = e.firing.line.0 == c.line && takes tree e.firing e.outs c.object c.lane

-- the head of a list as an event took it
abbrev pub head_seen : Tree → Event → ℕ → Lane → Option Message
head_seen tree e k UpRequests = e.took.request
head_seen tree e k UpResponses = option_and_then (λ head. head) (slice_get e.took.kids (place_among tree e.firing.object.0 k))
head_seen tree e k Down = e.took.parent
head_seen tree e k Requests = e.took.request
head_seen tree e k Answers = None

-- the messages that an event takes from a channel
abbrev pub taken_by : Tree → Channel → Event → List Message
taken_by tree c e = cond (takes_from tree c e) (option_to_list (head_seen tree e c.object c.lane)) []

-- the messages that the events append to a channel, in order
abbrev pub Sent : Tree → List Event → Channel → List Message
Sent tree es c = flat_map (sent_by tree c) es

-- the messages that the events take from a channel, in order
abbrev pub Taken : Tree → List Event → Channel → List Message
Taken tree es c = flat_map (taken_by tree c) es

-- the channels that an event takes from, in the order of the children; a processor's requests are no channel
abbrev pub channels_taken : Tree → Event → List Channel
channels_taken tree e =
    let l = e.firing.line.0 in
    let o = e.firing.object.0 in
    map (λ child. record { line = l; object = child.0; lane = UpRequests }) (cond e.outs.taken_request (option_to_list e.firing.me) [])
    ++ cond e.outs.taken_parent (record { line = l; object = o; lane = Down } ∷ []) []
    ++ map (λ k. record { line = l; object = k; lane = UpResponses })
    (filter (λ k. has_bit e.outs.taken_kids.0 (place_among tree o k)) (children_of tree o))

-- the places, counted from k, of the elements that pass a test
abbrev pub places_from : {A : Type 0} → (A → Bool) → ℕ → List A → List ℕ
places_from test k [] = []
places_from test k (x ∷ xs) = cond (test x) (k ∷ []) [] ++ places_from test (k + 1) xs

-- whether an event appends to a channel
abbrev pub sends_to : Tree → Channel → Event → Bool
sends_to tree c e = e.firing.line.0 == c.line && reaches tree e.firing e.outs.to c.object c.lane

-- the place of the event that sent what event i takes from a channel: the k-th taken is the k-th sent
abbrev pub sender : Tree → List Event → ℕ → Channel → Option ℕ
sender tree es i c = slice_get (places_from (sends_to tree c) 0 es) (count_by (takes_from tree c) (take i es))
