-- What a firing does to the lists of one object.
use Rattle.std.specs.Prelude.{ℕ, ◌==◌, ◌≡◌, Bool, true, false, ◌&&◌, ◌||◌, cond, not, List, [], ◌∷◌, ◌++◌, drop, Some, IsTrue, is_none, is_some, nat_lt, slice_get, slice_set}
use Rattle.std.specs.Option.{option_map_or}
use Rattle.hem_base.specs.Sets.{has_bit}
use Rattle.hem_base.specs.declared.ids.Message.{Message}
use Rattle.hem_base.specs.declared.ids.Firing.{Firing}
use Rattle.hem_fire.specs.declared.outs.To.{To}
use Rattle.hem_fire.specs.declared.outs.To.TheVariants as send
use Rattle.hem_fire.specs.declared.outs.Outs.{Outs}
use Rattle.hem_tree.specs.Tree.{Tree, is_child, place_among}
use Rattle.hem_system.specs.declared.lane.Lane.{Lane}
use Rattle.hem_system.specs.declared.lane.Lane.TheVariants.{UpRequests, UpResponses, Down, Requests, Answers}
use Rattle.hem_system.specs.declared.cell.Cell.{Cell as Kept}
use Rattle.hem_system.specs.declared.lists.Stand.{Stand}
use Rattle.hem_system.specs.declared.lists.Stand.TheVariants.{Own, Child}
use Rattle.hem_system.specs.State.{Cell, takes, reaches}

-- whether object k stands so to the one that fires
abbrev pub Stands : Tree → ℕ → ℕ → Stand → Type 0
Stands tree o k Own = k ≡ o
Stands tree o k (Child object place) = (object ≡ k) × (is_child tree k o ≡ true) × (place_among tree o k ≡ place)

-- whether a firing takes the head of a list of the object that stands so
abbrev pub takes_at : Firing → Outs → Stand → Lane → Bool
takes_at f outs Own Down = outs.taken_parent
takes_at f outs Own Requests = outs.taken_request && is_none f.me
takes_at f outs (Child object place) UpRequests = outs.taken_request && option_map_or (λ child. child.0 == object) f.me false
takes_at f outs (Child object place) UpResponses = has_bit outs.taken_kids.0 place
takes_at f outs _ _ = false

-- whether a firing sends to a list of the object that stands so
abbrev pub reaches_at : To → Stand → Lane → Bool
reaches_at send.Answer Own Answers = true
reaches_at send.UpRequest Own UpRequests = true
reaches_at send.UpResponse Own UpResponses = true
reaches_at (send.Kid c) (Child object place) Down = place == c
reaches_at (send.Kids set) (Child object place) Down = has_bit set.0 place
reaches_at _ _ _ = false

-- whether a firing may take from the lists of the object that stands so, or send to them: of a child whether it does
abbrev pub is_changed_at : Firing → Outs → Stand → Bool
is_changed_at f outs Own = true
is_changed_at f outs (Child object place) =
    takes_at f outs (Child object place) UpRequests || takes_at f outs (Child object place) UpResponses || reaches_at outs.to (Child object place) Down

-- a list after its head is taken and a message is appended, where that is so
abbrev pub list_changed : Bool → Bool → Message → List Message → List Message
list_changed takes sends m messages = drop (cond takes 1 0) messages ++ cond sends (m ∷ []) []

-- an object after heads are taken from some of its lists, and a message is appended to some
abbrev pub cell_changed : (Lane → Bool) → (Lane → Bool) → Message → Cell → Cell
cell_changed takes sends m cell =
    record {
      local = cell.local;
      up_requests = list_changed (takes UpRequests) (sends UpRequests) m cell.up_requests;
      up_responses = list_changed (takes UpResponses) (sends UpResponses) m cell.up_responses;
      down = list_changed (takes Down) (sends Down) m cell.down;
      requests = list_changed (takes Requests) (sends Requests) m cell.requests;
      answers = list_changed (takes Answers) (sends Answers) m cell.answers;
    }

-- the object that stands so, after the firing
abbrev pub changed_at : Firing → Outs → Stand → Cell → Cell
changed_at f outs at = cell_changed (takes_at f outs at) (reaches_at outs.to at) outs.message

-- the lists of object k after the firing
abbrev pub lists_after : Tree → Firing → Outs → ℕ → Cell → Cell
lists_after tree f outs k = cell_changed (takes tree f outs k) (reaches tree f outs.to k) outs.message

-- each of these lists has room for one message more
pub record HasRoom (sends : Lane → Bool) (cell : Kept) : Type 0 where
  pub up_requests : IsTrue (cond (sends UpRequests) cell.up_requests.room true)
  pub up_responses : IsTrue (cond (sends UpResponses) cell.up_responses.room true)
  pub down : IsTrue (cond (sends Down) cell.down.room true)
  pub requests : IsTrue (cond (sends Requests) cell.requests.room true)
  pub answers : IsTrue (cond (sends Answers) cell.answers.room true)

-- all objects of a line have room for what the firing sends
abbrev pub HaveRoom : Tree → Firing → To → List Kept → Type 0
HaveRoom tree f to cells = (k : ℕ) (cell : Kept) → slice_get cells k ≡ Some cell → HasRoom (reaches tree f to k) cell

-- all children of the object that fires have room for what the firing sends
abbrev pub HaveRoomBelow : Tree → Firing → To → List Kept → Type 0
HaveRoomBelow tree f to cells =
    (k : ℕ) (cell : Kept) → is_child tree k f.object.0 ≡ true → slice_get cells k ≡ Some cell → HasRoom (reaches tree f to k) cell

-- whether a firing sends down
abbrev pub sends_below : To → Bool
sends_below (send.Kid c) = true
sends_below (send.Kids set) = true
sends_below _ = false

-- whether a firing takes from a child or sends to one
abbrev pub meets_below : Firing → Outs → Bool
meets_below f outs = outs.taken_request && is_some f.me || not (outs.taken_kids.0 == 0) || sends_below outs.to

-- whether an object is among the first n children of the one that fires
abbrev pub is_met : Tree → ℕ → ℕ → ℕ → Bool
is_met tree o n k = is_child tree k o && nat_lt (place_among tree o k) n

-- object k after the firing, if it is among the first n children of the one that fires
abbrev pub so_far : Tree → Firing → Outs → ℕ → ℕ → Cell → Cell
so_far tree f outs n k cell = cond (is_met tree f.object.0 n k) (lists_after tree f outs k cell) cell

-- object k after the firing, if it is a child of the one that fires
abbrev pub below_after : Tree → Firing → Outs → ℕ → Cell → Cell
below_after tree f outs k cell = cond (is_child tree k f.object.0) (lists_after tree f outs k cell) cell

-- an element changed, where it is there
abbrev pub change_one : {A : Type 0} → ℕ → (A → A) → List A → List A
change_one k g xs = option_map_or (λ x. slice_set xs k (g x)) (slice_get xs k) xs
