-- Where nothing is under way on a line, no lock is held.
use Rattle.std.proofs.Common.{true, ◌≡◌, refl, ap, ◌∙◌, ℕ, zero, suc, ◌+◌, ◌<◌, ◌≤◌, length, arith, Option, Some, None}
use Rattle.std.specs.Prelude.{slice_get}
use Rattle.std.proofs.lemmas.Option.{slice_get_within}
use Rattle.hem_base.specs.Sets.{has_bit}
use Rattle.hem_object.specs.declared.state.Lock.{Lock}
use Rattle.hem_syntax.specs.Protocol.{Protocol}
use Rattle.hem_tree.specs.Tree.{Tree, IsTree, parent_of, children_of, place_among}
use Rattle.hem_tree.proofs.Early.{lawful_early}
use Rattle.hem_system.specs.State.{Cell, Line}
use Rattle.hem_system.proofs.Kids.{at_child}
use Rattle.hem_system.proofs.Takers.{parent_is}
use Rattle.hem_rows.specs.Acts.{is_down_request, is_down_response}
use Rattle.hem_locks.specs.Edges.{one_if, count, for_kid, for_parent, held, awaits, CellsHold, LocksHold}
use Rattle.hem_locks.specs.Clean.{IsStill, LineIsStill, HoldsNone}
use Rattle.hem_rows.proofs.Choices.{if_some}
use Rattle.hem_tree.proofs.Lawful.{get_within}
use Rattle.hem_locks.proofs.Clean.{not_held}

-- a child is in the tree
pub child_within : (tree : Tree) (k o : ℕ) → parent_of tree k ≡ Some o → k < length tree
child_within tree k o parent = let node = if_some (λ node. node.parent) (slice_get tree k) o parent in slice_get_within tree k node.0 node.1

-- a still edge, in numbers
record StillEdge (c : ℕ) (high low : Cell) : Type 0 where
  uplock : for_kid c high.local.up + for_kid c high.local.down ≡ held low.local.up
  downlock : for_parent low.local.down ≡ awaits c high.local.down

still_edge : (p : Protocol) (c : ℕ) (high low : Cell) → CellsHold p c high low → IsStill low → StillEdge c high low
still_edge p c high low holds still =
    let requests : length low.up_requests ≡ 0 = ap length still.up_requests in
    let responses : length low.up_responses ≡ 0 = ap length still.up_responses in
    let answers : count (is_down_response p) low.down ≡ 0 = ap (count (is_down_response p)) still.down in
    let asks : count (is_down_request p) low.down ≡ 0 = ap (count (is_down_request p)) still.down in
    record { uplock = omega (arith, holds.uplock, requests, answers); downlock = omega (arith, holds.downlock, responses, asks) }

-- a lock awaits the child at a place
awaited_at : (held : Option Lock) (lock : Lock) (c k : ℕ) → held ≡ Some lock → c ≡ k → has_bit lock.awaited.0 k ≡ true → awaits c held ≡ 1
awaited_at held lock c k is place awaited = ap (awaits c) is ∙ ap (λ c. one_if (has_bit lock.awaited.0 c)) place ∙ ap one_if awaited

-- a lock that is free is not the parent's
not_for_parent : (lock : Option Lock) → lock ≡ None → for_parent lock ≡ 0
not_for_parent lock free = ap for_parent free

module _ (p : Protocol) (tree : Tree) (line : Line) (lawful : IsTree tree) (holds : LocksHold p tree line) (still : LineIsStill line) where
  -- a downlock that is held awaits a child, whose downlock is held for its parent, and so on down to a leaf, that awaits nobody
  no_downlock : (n o : ℕ) (cell : Cell) → length tree ≤ o + n → slice_get line o ≡ Some cell → cell.local.down ≡ None
  no_downlock zero o cell far at = absurd (let inside = slice_get_within line o cell at in omega (arith, holds.size))
  no_downlock (suc n) o cell far at = by_lock cell.local.down refl (λ k low far. no_downlock n k low far)
    where
      by_lock : (lock : Option Lock) → cell.local.down ≡ lock → ((k : ℕ) (low : Cell) → length tree ≤ k + n → slice_get line k ≡ Some low → low.local.down ≡ None) → cell.local.down ≡ None
      by_lock None is below = is
      by_lock (Some lock) is below =
          let object = holds.objects.object o cell at in
          let one = object.awaits lock is in
          let kid = get_within (children_of tree o) one.kid (omega (arith, one.there, object.children)) in
          let place = at_child tree o one.kid kid.0 kid.1 in
          let parent = parent_is tree kid.0 o place.0 in
          let early = (lawful_early tree lawful).early kid.0 o parent in
          let inside = child_within tree kid.0 o parent in
          let low = get_within line kid.0 (omega (arith, holds.size, inside)) in
          let edge = still_edge p (place_among tree o kid.0) cell low.0 (holds.edges.edge kid.0 o cell low.0 parent at low.1) (still.object kid.0 low.0 low.1) in
          let awaited : awaits (place_among tree o kid.0) cell.local.down ≡ 1 = awaited_at cell.local.down lock (place_among tree o kid.0) one.kid is place.1 one.awaited in
          let free : for_parent low.0.local.down ≡ 0 = not_for_parent low.0.local.down (below kid.0 low.0 (omega arith) low.1) in
          absurd (omega (arith, edge.downlock, awaited, free))

  -- an uplock that is held is waited for by a parent whose uplock is held, and so on up to the root, that holds none
  no_uplock : (n o : ℕ) (cell : Cell) → o < n → slice_get line o ≡ Some cell → cell.local.up ≡ None
  no_uplock zero o cell near at = absurd (omega arith)
  no_uplock (suc n) o cell near at = by_parent (parent_of tree o) refl (λ k high near. no_uplock n k high near)
    where
      by_parent : (parent : Option ℕ) → parent_of tree o ≡ parent → ((k : ℕ) (high : Cell) → k < n → slice_get line k ≡ Some high → high.local.up ≡ None) → cell.local.up ≡ None
      by_parent None is above = ((holds.objects.object o cell at).top is).uplock
      by_parent (Some k) is above =
          let early = (lawful_early tree lawful).early o k is in
          let inside = slice_get_within line o cell at in
          let high = get_within line k (omega arith) in
          let c = place_among tree k o in
          let edge = still_edge p c high.0 cell (holds.edges.edge o k high.0 cell is high.1 at) (still.object o cell at) in
          let up : for_kid c high.0.local.up ≡ 0 = ap (for_kid c) (above k high.0 (omega arith) high.1) in
          let down : for_kid c high.0.local.down ≡ 0 = ap (for_kid c) (no_downlock (length tree) k high.0 (omega arith) high.1) in
          not_held cell.local.up (omega (arith, edge.uplock, up, down))

  pub none_held : (o : ℕ) (cell : Cell) → slice_get line o ≡ Some cell → HoldsNone cell
  none_held o cell at = record { uplock = no_uplock (suc o) o cell (omega arith) at; downlock = no_downlock (length tree) o cell (omega arith) at }
