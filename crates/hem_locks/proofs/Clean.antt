-- What follows from the invariant of locks.
use Rattle.std.proofs.Common.{◌≡◌, refl, ap, ◌∙◌, ℕ, ◌+◌, ◌≤◌, List, [], ◌∷◌, length, arith, Option, Some, None}
use Rattle.std.specs.Prelude.{◌==◌}
use Rattle.hem_base.specs.Sets.{has_bit}
use Rattle.hem_object.specs.declared.state.Lock.{Lock}
use Rattle.hem_syntax.specs.Protocol.{Protocol}
use Rattle.hem_tree.specs.Tree.{Tree, place_among}
use Rattle.hem_locks.specs.Edges.{one_if, is_kid, for_kid, held, awaits, CellsHold, EdgesHold}
use Rattle.hem_locks.specs.Clean.{AreFew, IsClean, IsCleanAt, WorksFor, AreInLine, AreCleanAt}
use Rattle.hem_system.specs.State.{Cell, Line}
use Rattle.hem_locks.proofs.Counts.{length-classes}
use Rattle.hem_locks.proofs.LockNumbers.{one_if-few, held-few}

pub awaits-few : (c : ℕ) (lock : Option Lock) → awaits c lock ≤ 1
awaits-few c None = omega arith
awaits-few c (Some lock) = one_if-few (has_bit lock.awaited.0 c)

-- the lists of an edge are short
pub few : (p : Protocol) (c : ℕ) (high low : Cell) → CellsHold p c high low → AreFew low
few p c high low holds =
    record {
      up_requests = omega (arith, holds.uplock, held-few low.local.up);
      up_responses = omega (arith, holds.downlock, awaits-few c high.local.down);
      down = omega (arith, length-classes p low.down holds.order, holds.uplock, holds.downlock, held-few low.local.up, awaits-few c high.local.down);
    }

-- a lock that is free
pub not_held : (lock : Option Lock) → held lock ≡ 0 → lock ≡ None
not_held None none = refl
not_held (Some lock) none = absurd (omega arith)

pub is_held : (lock : Option Lock) → held lock ≡ 1 → (l : Lock) × (lock ≡ Some l)
is_held None one = absurd (omega arith)
is_held (Some lock) one = (lock, refl)

pub is_empty : {A : Type 0} (xs : List A) → length xs ≡ 0 → xs ≡ []
is_empty [] none = refl
is_empty (x ∷ xs) none = absurd (omega arith)

-- a child for which one thing stands, under a parent whose downlock is free
pub clean_by : (p : Protocol) (c : ℕ) (high low : Cell) → CellsHold p c high low → high.local.down ≡ None → 1 ≤ length low.up_requests + for_kid c high.local.up → IsClean low
clean_by p c high low holds free one =
    let no_kid : for_kid c high.local.down ≡ 0 = ap (for_kid c) free in
    let nobody : awaits c high.local.down ≡ 0 = ap (awaits c) free in
    let few = held-few low.local.up in
    let up = holds.uplock in
    let down = holds.downlock in
    let single = holds.single in
    let held_up : held low.local.up ≡ 1 = omega arith in
    let sizes = length-classes p low.down holds.order in
    record {
      uplock = is_held low.local.up held_up;
      downlock = not_held low.local.down (omega arith);
      down = is_empty low.down (omega arith);
      up_responses = is_empty low.up_responses (omega arith);
    }

-- a child for which a clean object works is clean
pub clean_below : (p : Protocol) (tree : Tree) (line : Line) (high low : ℕ) → EdgesHold p tree line → IsCleanAt line high → WorksFor tree line high low → IsCleanAt line low
clean_below p tree line high low holds clean works =
    λ cell at.
    let c = place_among tree high low in
    let one : for_kid c works.cell.local.up ≡ 1 = ap (for_kid c) works.up ∙ ap (is_kid c) works.holder ∙ same c in
    clean_by p c works.cell cell (holds.edge low high works.cell cell works.parent works.there at) (clean works.cell works.there).downlock (omega (arith, one))
  where
    same : (c : ℕ) → one_if (c == c) ≡ 1
    same c = grind arith

-- and so on down
pub all_clean : (p : Protocol) (tree : Tree) (line : Line) (high : ℕ) (lows : List ℕ) → EdgesHold p tree line → IsCleanAt line high → AreInLine tree line high lows → AreCleanAt line (high ∷ lows)
all_clean p tree line high [] holds clean works = (clean, tt)
all_clean p tree line high (low ∷ lows) holds clean works = (clean, all_clean p tree line low lows holds (clean_below p tree line high low holds clean works.0) works.1)
