-- Whole states, firings and runs.
use Rattle.std.specs.Prelude.{ℕ, ◌==◌, ◌≡◌, ◌+◌, Bool, true, false, ◌&&◌, cond, List, [], ◌∷◌, ◌++◌, length, map, drop, Option, None, Some, slice_get, slice_set, option_map, option_and_then, is_none}
use Rattle.std.specs.Option.{option_map_or}
use Rattle.hem_base.specs.Sets.{has_bit}
use Rattle.hem_base.specs.declared.ids.ObjectId.{ObjectId}
use Rattle.hem_base.specs.declared.ids.Message.{Message}
use Rattle.hem_base.specs.declared.ids.Firing.{Firing}
use Rattle.hem_base.specs.declared.ids.Kind.{Kind}
use Rattle.hem_syntax.specs.declared.rule.Rule.{Rule}
use Rattle.hem_fire.specs.declared.outs.To.{To}
use Rattle.hem_fire.specs.declared.outs.To.TheVariants as to
use Rattle.hem_fire.specs.declared.outs.Outs.{Outs}
use Rattle.hem_system.specs.declared.lane.Lane.{Lane}
use Rattle.hem_system.specs.declared.lane.Lane.TheVariants.{UpRequests, UpResponses, Down, Requests, Answers}
use Rattle.hem_syntax.specs.Protocol.{Protocol, rule_named}
use Rattle.hem_tree.specs.Tree.{Tree, Node, below, kind_of, parent_of, is_child, children_of, place_among}
use Rattle.hem_work.specs.Work.{Work, requests_of}
use Rattle.hem_object.specs.Local.{Local}
use Rattle.hem_object.specs.Start.{first_local}
use Rattle.hem_fire.specs.OneFire.{Heads, can_fire, local_after, outs_of}

-- a function of place and element, at each element, the first at place k
abbrev pub map_each : {A B : Type 0} → (ℕ → A → B) → ℕ → List A → List B
map_each f k [] = []
map_each f k (x ∷ xs) = f k x ∷ map_each f (k + 1) xs

-- an object on a line: its local state, the three lists of the edge to its parent, and a leaf's requests and answers; lists that an object lacks stay empty
pub record Cell : Type 0 where
  pub local : Local
  pub up_requests : List Message
  pub up_responses : List Message
  pub down : List Message
  pub requests : List Message
  pub answers : List Message

-- the state of a line: each object's
abbrev pub Line : Type 0
Line = List Cell

-- the state of all lines
abbrev pub State : Type 0
State = List Line

-- a list of an object
abbrev pub list_of : Cell → Lane → List Message
list_of cell UpRequests = cell.up_requests
list_of cell UpResponses = cell.up_responses
list_of cell Down = cell.down
list_of cell Requests = cell.requests
list_of cell Answers = cell.answers

-- an object on a line
abbrev pub cell_at : State → ℕ → ℕ → Option Cell
cell_at s l o = option_and_then (λ line. slice_get line o) (slice_get s l)

-- a list of a line
abbrev pub list_at : Line → ℕ → Lane → List Message
list_at line o lane = option_map_or (λ cell. list_of cell lane) (slice_get line o) []

-- the head of a list of a line
abbrev pub head_at : Line → ℕ → Lane → Option Message
head_at line o lane = slice_get (list_at line o lane) 0

-- the head of the named child's requests, or else of the processor's
abbrev pub request_head : Line → ℕ → Option ObjectId → Option Message
request_head line o None = head_at line o Requests
request_head line o (Some child) = head_at line child.0 UpRequests

-- the heads of an object's input lists: the named child's or else the processor's requests, the parent's messages, each child's responses
abbrev pub heads_of : Tree → Line → ℕ → Option ObjectId → Heads
heads_of tree line o me =
    record {
      request = request_head line o me;
      parent = head_at line o Down;
      kids = map (λ k. head_at line k UpResponses) (children_of tree o);
    }

-- what a firing does: the local state that it leaves, the heads that it took, and what it takes and sends
pub record Effect : Type 0 where
  pub after : Local
  pub took : Heads
  pub outs : Outs

-- of the heads those that a firing takes
abbrev pub taken_heads : Outs → Heads → Heads
taken_heads outs heads =
    record {
      request = cond outs.taken_request heads.request None;
      parent = cond outs.taken_parent heads.parent None;
      kids = map_each (λ k head. cond (has_bit outs.taken_kids.0 k) head None) 0 heads.kids;
    }

-- the child that a firing names is one of the object's
abbrev pub is_own_child : Tree → ℕ → Option ObjectId → Bool
is_own_child tree o None = true
is_own_child tree o (Some child) = is_child tree child.0 o

-- the place of the child that a firing names
abbrev pub place_of_me : Tree → ℕ → Option ObjectId → Option ℕ
place_of_me tree o me = option_map (λ child. place_among tree o child.0) me

-- the effect of a rule at an object, where it can fire
abbrev pub rule_effect : Protocol → Kind → Rule → Option ℕ → Local → Heads → Option Effect
rule_effect p kind rule me local heads =
    let outs = outs_of p kind rule me local heads in
    cond (can_fire p kind rule me local heads)
    (Some (record { after = local_after p kind rule me local heads; took = taken_heads outs heads; outs = outs }))
    None

-- the effect of a firing at its object with this local state and these heads, where it is possible there
abbrev pub own_effect : Protocol → Tree → Firing → Local → Heads → Option Effect
own_effect p tree f local heads =
    let o = f.object.0 in
    option_and_then (λ kind.
    option_and_then (λ rule.
    cond (is_own_child tree o f.me)
    (rule_effect p kind rule (place_of_me tree o f.me) local heads)
    None)
    (rule_named p kind f.rule))
    (kind_of tree o)

-- the local state of an object on a line
abbrev pub local_at : Line → ℕ → Option Local
local_at line o = option_map (λ cell. cell.local) (slice_get line o)

-- the effect of a firing on a line, where it is possible
abbrev pub effect_of : Protocol → Tree → Line → Firing → Option Effect
effect_of p tree line f =
    option_and_then (λ local. own_effect p tree f local (heads_of tree line f.object.0 f.me)) (local_at line f.object.0)

-- the object that takes from a list, if any does
abbrev pub taker_of : Tree → ℕ → Lane → Option ℕ
taker_of tree k UpRequests = parent_of tree k
taker_of tree k UpResponses = parent_of tree k
taker_of tree k Down = Some k
taker_of tree k Requests = Some k
taker_of tree k Answers = None

-- the object that sends to a list, if any does
abbrev pub sender_of : Tree → ℕ → Lane → Option ℕ
sender_of tree k UpRequests = Some k
sender_of tree k UpResponses = Some k
sender_of tree k Down = parent_of tree k
sender_of tree k Requests = None
sender_of tree k Answers = Some k

-- whether a firing takes the head of a list
abbrev pub takes : Tree → Firing → Outs → ℕ → Lane → Bool
takes tree f outs k UpRequests = outs.taken_request && option_map_or (λ child. child.0 == k) f.me false && is_child tree k f.object.0
takes tree f outs k UpResponses = is_child tree k f.object.0 && has_bit outs.taken_kids.0 (place_among tree f.object.0 k)
takes tree f outs k Down = outs.taken_parent && k == f.object.0
takes tree f outs k Requests = outs.taken_request && is_none f.me && k == f.object.0
takes tree f outs k Answers = false

-- whether a firing sends to a list
abbrev pub reaches : Tree → Firing → To → ℕ → Lane → Bool
reaches tree f to.Answer k Answers = k == f.object.0
reaches tree f to.UpRequest k UpRequests = k == f.object.0
reaches tree f to.UpResponse k UpResponses = k == f.object.0
reaches tree f (to.Kid c) k Down = is_child tree k f.object.0 && place_among tree f.object.0 k == c
reaches tree f (to.Kids set) k Down = is_child tree k f.object.0 && has_bit set.0 (place_among tree f.object.0 k)
reaches tree f _ k _ = false

-- the messages that a firing appends to a list
abbrev pub sends : Tree → Firing → Outs → ℕ → Lane → List Message
sends tree f outs k lane = cond (reaches tree f outs.to k lane) (outs.message ∷ []) []

-- a list after the firing: its head taken, its message appended
abbrev pub list_after : Tree → Firing → Outs → ℕ → Lane → List Message → List Message
list_after tree f outs k lane messages = drop (cond (takes tree f outs k lane) 1 0) messages ++ sends tree f outs k lane

-- an object's state on the line after a firing
abbrev pub cell_after : Tree → Firing → Effect → ℕ → Cell → Cell
cell_after tree f e k cell =
    record {
      local = cond (k == f.object.0) e.after cell.local;
      up_requests = list_after tree f e.outs k UpRequests cell.up_requests;
      up_responses = list_after tree f e.outs k UpResponses cell.up_responses;
      down = list_after tree f e.outs k Down cell.down;
      requests = list_after tree f e.outs k Requests cell.requests;
      answers = list_after tree f e.outs k Answers cell.answers;
    }

-- the line after a firing
abbrev pub line_after : Tree → Firing → Effect → Line → Line
line_after tree f e line = map_each (cell_after tree f e) 0 line

-- a firing that is made on a line: its effect and the line to which it leads
pub record LineStep : Type 0 where
  pub effect : Effect
  pub next : Line

-- the step of a firing on a line, where it is possible
abbrev pub line_step_of : Protocol → Tree → Line → Firing → Option LineStep
line_step_of p tree line f =
    option_map (λ e. record { effect = e; next = line_after tree f e line }) (effect_of p tree line f)

-- the line to which firings lead, where all are possible
abbrev pub run_line : Protocol → Tree → Line → List Firing → Option Line
run_line p tree line [] = Some line
run_line p tree line (f ∷ h) = option_and_then (λ step. run_line p tree step.next h) (line_step_of p tree line f)

-- a firing that is made: its effect and the state to which it leads
pub record Step : Type 0 where
  pub effect : Effect
  pub next : State

-- the step of a firing, where it is possible
abbrev pub step_of : Protocol → Tree → State → Firing → Option Step
step_of p tree s f =
    option_and_then (λ line.
    option_map (λ step. record { effect = step.effect; next = slice_set s f.line.0 step.next }) (line_step_of p tree line f))
    (slice_get s f.line.0)

-- the state to which a firing leads, where it is possible
abbrev pub fire : Protocol → Tree → State → Firing → Option State
fire p tree s f = option_map (λ step. step.next) (step_of p tree s f)

-- the firing is possible in the old state and leads to the new one
pub record Fires (p : Protocol) (tree : Tree) (old : State) (f : Firing) (new : State) : Type 0 where
  pub leads : fire p tree old f ≡ Some new

-- the state to which a history leads, where all of it is possible
abbrev pub run : Protocol → Tree → State → List Firing → Option State
run p tree s [] = Some s
run p tree s (f ∷ h) = option_and_then (λ next. run p tree next h) (fire p tree s f)

-- the firings of the history are possible one after another, and lead from the old state to the new one
pub record Runs (p : Protocol) (tree : Tree) (old : State) (h : List Firing) (new : State) : Type 0 where
  pub leads : run p tree old h ≡ Some new

-- an object's state at the start, with its requests
abbrev pub first_cell : Protocol → Tree → (ℕ → List Message) → ℕ → Node → Cell
first_cell p tree requests o node =
    record {
      local = first_local p node.kind (length (children_of tree o));
      up_requests = [];
      up_responses = [];
      down = [];
      requests = requests o;
      answers = [];
    }

-- a line at the start
abbrev pub first_line : Protocol → Tree → (ℕ → List Message) → Line
first_line p tree requests = map_each (first_cell p tree requests) 0 tree

-- the state at the start: all locks free, and all lists empty but the requests
abbrev pub start : Protocol → Tree → Work → State
start p tree work = map (λ l. first_line p tree (requests_of work l)) (below work.lines)
