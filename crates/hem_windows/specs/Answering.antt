-- An answer on its way down: the objects that wait for it do nothing until it comes.
use Rattle.std.specs.Prelude.{ℕ, ◌≡◌, ◌≢◌, ◌≤◌, ◌+◌, List, [], ◌∷◌, None, Some, slice_get}
use Rattle.hem_base.specs.declared.ids.Firing.{Firing}
use Rattle.hem_template.specs.declared.template_name.TemplateName.{TemplateName}
use Rattle.hem_syntax.specs.Protocol.{Protocol}
use Rattle.hem_template.specs.Template.{row_of}
use Rattle.hem_template.specs.declared.row.Taking.TheVariants.{ParentResponse}
use Rattle.hem_tree.specs.Tree.{Tree, parent_of, place_among}
use Rattle.hem_system.specs.State.{Cell, Line}
use Rattle.hem_rows.specs.Acts.{is_down_response}
use Rattle.hem_locks.specs.Edges.{count, for_kid}
use Rattle.hem_locks.specs.Allowed.{HasTemplate}
use Rattle.hem_locks.specs.Clean.{AreInLine}
use Rattle.hem_windows.specs.Pending.{IsOneOf}

-- the request of top has been taken for good: the response to it is under way, or its parent's downlock is held for it; top works for the first of the others, and so on down, and its downlock is free
pub record IsAnswering (p : Protocol) (tree : Tree) (line : Line) (high top : ℕ) (lows : List ℕ) : Type 0 where
  pub parent : parent_of tree top ≡ Some high
  pub upper : Cell
  pub at_high : slice_get line high ≡ Some upper
  pub cell : Cell
  pub there : slice_get line top ≡ Some cell
  pub stands : 1 ≤ count (is_down_response p) cell.down + for_kid (place_among tree high top) upper.local.down
  pub works : AreInLine tree line top lows
  pub free : cell.local.down ≡ None

-- a firing takes a response of the parent
pub record TakesResponse (p : Protocol) (tree : Tree) (f : Firing) : Type 0 where
  pub template : TemplateName
  pub of : HasTemplate p tree f template
  pub takes : (row_of template).taking ≡ ParentResponse

-- the objects of the list fire one after another: each one's first firing takes the response, and the objects after it don't fire before that
abbrev pub FireInTurn : Protocol → Tree → List ℕ → List Firing → Type 0
FireInTurn p tree [] h = Unit {0}
FireInTurn p tree (top ∷ lows) [] = Unit {0}
FireInTurn p tree (top ∷ lows) (f ∷ h) =
    (f.object.0 ≡ top → TakesResponse p tree f × FireInTurn p tree lows h)
    × (f.object.0 ≢ top → (IsOneOf f.object.0 lows → ⊥) × FireInTurn p tree (top ∷ lows) h)
