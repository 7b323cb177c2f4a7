-- The invariant of locks: at each edge of a line, how the locks of parent and child go with the messages between them.
use Rattle.std.specs.Prelude.{ℕ, ◌==◌, ◌≡◌, ◌<◌, ◌≤◌, ◌+◌, Bool, true, cond, List, [], ◌∷◌, length, filter, Option, None, Some, slice_get}
use Rattle.std.specs.List.{list_all}
use Rattle.hem_base.specs.Sets.{has_bit}
use Rattle.hem_base.specs.declared.ids.Message.{Message}
use Rattle.hem_object.specs.declared.state.By.{By}
use Rattle.hem_object.specs.declared.state.By.TheVariants.{Kid, Parent}
use Rattle.hem_object.specs.declared.state.Lock.{Lock}
use Rattle.hem_syntax.specs.Protocol.{Protocol}
use Rattle.hem_object.specs.Local.{Local}
use Rattle.hem_tree.specs.Tree.{Tree, parent_of, children_of, place_among}
use Rattle.hem_system.specs.State.{Cell, Line, State}
use Rattle.hem_rows.specs.Acts.{is_down_request, is_down_response}

-- 1 where a test passes
abbrev pub one_if : Bool → ℕ
one_if b = cond b 1 0

-- how many messages pass a test
abbrev pub count : (Message → Bool) → List Message → ℕ
count test ms = length (filter test ms)

-- 1 for the child at that place
abbrev pub is_kid : ℕ → By → ℕ
is_kid c by = elim by [ Kid d ↦ one_if (c == d) | _ ↦ 0 ]

-- 1 for the parent
abbrev pub is_parent : By → ℕ
is_parent by = elim by [ Parent ↦ 1 | _ ↦ 0 ]

-- 1 where a lock is held for the child at that place
abbrev pub for_kid : ℕ → Option Lock → ℕ
for_kid c None = 0
for_kid c (Some lock) = is_kid c lock.by

-- 1 where a lock is held for the parent
abbrev pub for_parent : Option Lock → ℕ
for_parent None = 0
for_parent (Some lock) = is_parent lock.by

-- 1 where a lock is held
abbrev pub held : Option Lock → ℕ
held None = 0
held (Some lock) = 1

-- 1 where a lock awaits the child at that place
abbrev pub awaits : ℕ → Option Lock → ℕ
awaits c None = 0
awaits c (Some lock) = one_if (has_bit lock.awaited.0 c)

-- whether a parent's messages are responses and then requests, and nothing else
abbrev pub responses_first : Protocol → List Message → Bool
responses_first p [] = true
responses_first p (m ∷ ms) = cond (is_down_response p m) (responses_first p ms) (list_all (is_down_request p) (m ∷ ms))

-- the invariant at the edge from the child at that place, of this local state and these lists, to its parent
pub record EdgeHolds (p : Protocol) (c : ℕ) (high low : Local) (up_requests up_responses down : List Message) : Type 0 where
  -- the child's uplock is held exactly where one thing stands for it: its request, the response to it, or a lock of the parent for the child
  pub uplock : length up_requests + count (is_down_response p) down + for_kid c high.up + for_kid c high.down ≡ held low.up
  -- the parent awaits the child exactly where one thing stands for it: a request to the child, the child's response, or its downlock for the parent
  pub downlock : count (is_down_request p) down + length up_responses + for_parent low.down ≡ awaits c high.down
  -- what is under way to the child are responses and then requests
  pub order : responses_first p down ≡ true
  -- the child doesn't hold both locks, but where the downlock is for the parent
  pub single : held low.up + held low.down ≤ 1 + for_parent low.down
  -- the parent doesn't await the child for which its downlock is held
  pub spared : for_kid c high.down + awaits c high.down ≤ 1

-- the invariant between two objects of a line
abbrev pub CellsHold : Protocol → ℕ → Cell → Cell → Type 0
CellsHold p c high low = EdgeHolds p c high.local low.local low.up_requests low.up_responses low.down

-- the invariant at each edge of a line
pub record EdgesHold (p : Protocol) (tree : Tree) (line : Line) : Type 0 where
  pub edge : (o high : ℕ) (upper lower : Cell) → parent_of tree o ≡ Some high → slice_get line high ≡ Some upper → slice_get line o ≡ Some lower → CellsHold p (place_among tree high o) upper lower

-- a lock awaits one of so many children at least
pub record AwaitsOne (lock : Lock) (children : ℕ) : Type 0 where
  pub kid : ℕ
  pub there : kid < children
  pub awaited : has_bit lock.awaited.0 kid ≡ true

-- an object without a parent works for none and asks none: no uplock, no downlock for a parent, and no messages of an edge
pub record IsTop (cell : Cell) : Type 0 where
  pub uplock : cell.local.up ≡ None
  pub downlock : for_parent cell.local.down ≡ 0
  pub up_requests : cell.up_requests ≡ []
  pub up_responses : cell.up_responses ≡ []
  pub down : cell.down ≡ []

-- the invariant at one object: an entry for each child, a child that is awaited wherever the downlock is held, and nothing above the root
pub record ObjectHolds (tree : Tree) (o : ℕ) (cell : Cell) : Type 0 where
  pub children : length cell.local.dir ≡ length (children_of tree o)
  pub awaits : (lock : Lock) → cell.local.down ≡ Some lock → AwaitsOne lock (length cell.local.dir)
  pub top : parent_of tree o ≡ None → IsTop cell

-- the invariant at each object of a line
pub record ObjectsHold (tree : Tree) (line : Line) : Type 0 where
  pub object : (o : ℕ) (cell : Cell) → slice_get line o ≡ Some cell → ObjectHolds tree o cell

-- the invariant of locks on a line that has a cell for each object
pub record LocksHold (p : Protocol) (tree : Tree) (line : Line) : Type 0 where
  pub size : length line ≡ length tree
  pub edges : EdgesHold p tree line
  pub objects : ObjectsHold tree line

-- the invariant on each line
pub record AllLocksHold (p : Protocol) (tree : Tree) (s : State) : Type 0 where
  pub line : (l : ℕ) (line : Line) → slice_get s l ≡ Some line → LocksHold p tree line
