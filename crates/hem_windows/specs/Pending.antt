-- A request on its way up: the objects that wait for its response.
use Rattle.std.specs.Prelude.{ℕ, ◌==◌, ◌≡◌, ◌≤◌, ◌⊎◌, Bool, true, false, cond, List, [], ◌∷◌, length, Some, slice_get}
use Rattle.std.specs.Option.{option_map_or}
use Rattle.hem_base.specs.declared.ids.Firing.{Firing}
use Rattle.hem_template.specs.declared.template_name.TemplateName.TheVariants.{RqUp}
use Rattle.hem_syntax.specs.Protocol.{Protocol}
use Rattle.hem_tree.specs.Tree.{Tree}
use Rattle.hem_system.specs.State.{Cell, Line}
use Rattle.hem_locks.specs.Allowed.{HasTemplate, ServesItsParent}
use Rattle.hem_locks.specs.Clean.{AreInLine}

-- the request of top is not taken yet, top works for the first of the others, that one for the next, and so on down
pub record IsPending (tree : Tree) (line : Line) (top : ℕ) (lows : List ℕ) : Type 0 where
  pub cell : Cell
  pub there : slice_get line top ≡ Some cell
  pub asks : 1 ≤ length cell.up_requests
  pub works : AreInLine tree line top lows

-- o is one of the list
abbrev pub IsOneOf : ℕ → List ℕ → Type 0
IsOneOf o [] = ⊥
IsOneOf o (k ∷ ks) = (o ≡ k) ⊎ IsOneOf o ks

-- whether a firing takes the request of top
abbrev pub takes_of : ℕ → Firing → Bool
takes_of top f = option_map_or (λ child. child.0 == top) f.me false

-- the object whose request is pending after firings, where those that took it sent it on
abbrev pub top_after : ℕ → List Firing → ℕ
top_after top [] = top
top_after top (f ∷ h) = top_after (cond (takes_of top f) f.object.0 top) h

-- the objects that wait below that one then
abbrev pub lows_after : ℕ → List ℕ → List Firing → List ℕ
lows_after top lows [] = lows
lows_after top lows (f ∷ h) = lows_after (cond (takes_of top f) f.object.0 top) (cond (takes_of top f) (top ∷ lows) lows) h

-- each firing that takes the pending request sends it on to the next parent
abbrev pub SendsOn : Protocol → Tree → ℕ → List Firing → Type 0
SendsOn p tree top [] = Unit {0}
SendsOn p tree top (f ∷ h) = (takes_of top f ≡ true → HasTemplate p tree f RqUp) × SendsOn p tree (cond (takes_of top f) f.object.0 top) h

-- each firing of an object that waits then serves its parent
abbrev pub AllServe : Protocol → Tree → ℕ → List ℕ → List Firing → Type 0
AllServe p tree top lows [] = Unit {0}
AllServe p tree top lows (f ∷ h) =
    (IsOneOf f.object.0 (top ∷ lows) → ServesItsParent p tree f)
    × AllServe p tree (cond (takes_of top f) f.object.0 top) (cond (takes_of top f) (top ∷ lows) lows) h
