-- A history has one ending: it runs to one state, or stops at one place in one state.
use Rattle.std.proofs.Common.{◌≡◌, ◌∙◌, refl, sym, ap, arith, ℕ, zero, suc, ◌+◌, List, [], ◌∷◌, take, Option, Some, None, add-zero}
use Rattle.std.specs.Prelude.{option_and_then, slice_get}
use Rattle.hem_base.specs.declared.ids.Firing.{Firing}
use Rattle.hem_syntax.specs.Protocol.{Protocol}
use Rattle.hem_tree.specs.Tree.{Tree}
use Rattle.hem_system.specs.State.{State, fire, run}
use Rattle.hem_system.specs.Replays.{IsReplay}

-- where a history ends: the place of the first firing that isn't possible, if there is one, and the state
record Ending : Type 0 where
  illegal : Option ℕ
  state : State

-- the ending of a history from a state, with places counted from k
abbrev ending : Protocol → Tree → State → ℕ → List Firing → Ending
ending p tree s k [] = record { illegal = None; state = s }
ending p tree s k (f ∷ h) =
    elim (fire p tree s f) [
      | None ↦ record { illegal = Some k; state = s }
      | Some next ↦ ending p tree next (k + 1) h
    ]

pub if_some : {A B : Type 0} (f : A → Option B) (o : Option A) (y : B) → option_and_then f o ≡ Some y → (x : A) × (o ≡ Some x) × (f x ≡ Some y)
if_some f None y is = cc
if_some f (Some x) y is = (x, refl, is)

-- a history that runs ends in the state to which it runs
ran-ending : (p : Protocol) (tree : Tree) (s new : State) (k : ℕ) (h : List Firing) → run p tree s h ≡ Some new → ending p tree s k h ≡ record { illegal = None; state = new }
ran-ending p tree s new k [] is = let e : s ≡ new = cc in ap (λ x. record { illegal = None; state = x }) e
ran-ending p tree s new k (f ∷ h) is =
    let by = if_some (λ next. run p tree next h) (fire p tree s f) new is in
    rw (by.1, ending) (ran-ending p tree by.0 new (k + 1) h by.2)

-- one that stops ends at that place
stopped-ending : (p : Protocol) (tree : Tree) (s now : State) (k place : ℕ) (f : Firing) (h : List Firing) → slice_get h place ≡ Some f → run p tree s (take place h) ≡ Some now → fire p tree now f ≡ None
    → ending p tree s k h ≡ record { illegal = Some (k + place); state = now }
stopped-ending p tree s now k place f [] there runs stops = cc
stopped-ending p tree s now k zero f (g ∷ h) there runs stops =
    let same : g ≡ f = cc in
    let here : s ≡ now = cc in
    let none : fire p tree s g ≡ None = ap (λ x. fire p tree x g) here ∙ (ap (fire p tree now) same ∙ stops) in
    rw (none, ending, add-zero, here) refl
stopped-ending p tree s now k (suc place) f (g ∷ h) there runs stops =
    let by = if_some (λ next. run p tree next (take place h)) (fire p tree s g) now runs in
    let e : (k + 1) + place ≡ k + suc place = omega arith in
    rw (by.1, ending, ← e) (stopped-ending p tree by.0 now (k + 1) place f h there by.2 stops)

replay-ending : (p : Protocol) (tree : Tree) (s now : State) (h : List Firing) (place : Option ℕ) → IsReplay p tree s h place now → ending p tree s 0 h ≡ record { illegal = place; state = now }
replay-ending p tree s now h None replay = ran-ending p tree s now 0 h replay.leads
replay-ending p tree s now h (Some k) replay =
    let e : 0 + k ≡ k = omega arith in
    rw e at (stopped-ending p tree s now 0 k replay.firing h replay.there replay.runs.leads replay.stops)

-- two replays of a history end alike
pub replay_once : (p : Protocol) (tree : Tree) (s a b : State) (h : List Firing) (i j : Option ℕ) → IsReplay p tree s h i a → IsReplay p tree s h j b → (i ≡ j) × (a ≡ b)
replay_once p tree s a b h i j one other =
    let same = sym (replay-ending p tree s a h i one) ∙ replay-ending p tree s b h j other in
    (ap (λ (x : Ending). x.illegal) same, ap (λ (x : Ending). x.state) same)
