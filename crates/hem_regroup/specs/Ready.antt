-- Transactions that wait, and those that are ready.
use Rattle.std.specs.Prelude.{ℕ, ◌==◌, ◌≡◌, ◌+◌, ◌-◌, ◌<◌, Bool, true, ◌&&◌, ◌||◌, List, [], ◌∷◌, ◌++◌, length, Some, slice_get, slice_index, count_by}
use Rattle.std.specs.Ordering.{nat_cmp}
use Rattle.std.specs.BTreeSet.{BTreeSet, contains}
use Rattle.hem_law.specs.Orders.{stands_in}
use Rattle.hem_regroup.specs.Turns.{turns}
use Rattle.hem_regroup.specs.Links.{Link, is_linked}
use Rattle.hem_regroup.specs.Graph.{targets, entering}

-- whether a number is among those that are ready
abbrev pub is_ready : BTreeSet ℕ → ℕ → Bool
is_ready ready u = contains nat_cmp ready u

-- how often a number is among these
abbrev pub times : List ℕ → ℕ → ℕ
times us u = count_by (λ x. x == u) us

-- each of these counted down once for each time that it is there, and those at 0 ready too
pub record IsReleased (us counts : List ℕ) (ready : BTreeSet ℕ) (new : List ℕ) (after : BTreeSet ℕ) : Type 0 where
  pub size : length new ≡ length counts
  pub counts_are : (u : ℕ) → slice_index new u + times us u ≡ slice_index counts u
  pub ready_are : (u : ℕ) → is_ready after u ≡ (is_ready ready u || (stands_in us u && slice_index new u == 0))

-- the least first, and each once
abbrev pub Ascends : List ℕ → Type 0
Ascends [] = Unit {0}
Ascends (x ∷ xs) = ((u : ℕ) → stands_in xs u ≡ true → x < u) × Ascends xs

-- what the tables keep while these wait: where their links lead, how many lead to each from one that waits, and that those are ready to which none leads
pub record IsWaiting (ls : List Link) (rest : List ℕ) (nexts : List (List ℕ)) (counts : List ℕ) (ready : BTreeSet ℕ) : Type 0 where
  pub nexts_are : (t : ℕ) → stands_in rest t ≡ true → slice_get nexts t ≡ Some (targets ls t)
  pub counts_are : (u : ℕ) → stands_in rest u ≡ true → slice_index counts u ≡ entering (stands_in rest) ls u
  pub ready_are : (u : ℕ) → is_ready ready u ≡ (stands_in rest u && slice_index counts u == 0)
  pub closed : (t u : ℕ) → is_linked ls t u ≡ true → stands_in rest t ≡ true → stands_in rest u ≡ true
  pub ascends : Ascends rest

-- after so many turns the numbers that are out, and what those that wait still give
pub record IsInTurn (ls : List Link) (left : List ℕ) (turn : ℕ) (out : List ℕ) (nexts : List (List ℕ)) (counts : List ℕ) (ready : BTreeSet ℕ) : Type 0 where
  pub rest : List ℕ
  pub gives : out ++ turns (length left - turn) (is_linked ls) rest ≡ turns (length left) (is_linked ls) left
  pub waiting : IsWaiting ls rest nexts counts ready
