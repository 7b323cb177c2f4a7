-- The objects of a pending request wait, and only serve their parents.
use Rattle.std.proofs.Common.{◌≡◌, refl, ap, sym, ◌∙◌, subst, ℕ, ◌+◌, ◌≤◌, List, [], ◌∷◌, length, arith, Option, Some, None, inl, inr}
use Rattle.std.specs.Prelude.{◌==◌, slice_get}
use Rattle.hem_base.specs.declared.ids.Firing.{Firing}
use Rattle.hem_base.specs.declared.ids.Kind.{Kind}
use Rattle.hem_template.specs.declared.template_name.TemplateName.{TemplateName}
use Rattle.hem_object.specs.declared.state.Lock.{Lock}
use Rattle.hem_syntax.specs.Protocol.{Protocol}
use Rattle.hem_object.specs.Local.{Local}
use Rattle.hem_template.specs.Template.{row_of}
use Rattle.hem_fire.specs.declared.outs.Outs.{Outs}
use Rattle.hem_fire.specs.Heads.{Heads}
use Rattle.hem_tree.specs.Tree.{Tree, IsTree, parent_of, place_among}
use Rattle.hem_tree.proofs.Early.{lawful_early}
use Rattle.std.proofs.lemmas.Option.{slice_get_within}
use Rattle.hem_system.specs.State.{Cell, Line, Effect}
use Rattle.hem_rows.specs.Acts.{is_down_response, Acts}
use Rattle.hem_locks.specs.Acted.{IsActed}
use Rattle.hem_locks.specs.Allowed.{ServesParent}
use Rattle.hem_locks.specs.Edges.{one_if, count, is_kid, for_kid, held, CellsHold, LocksHold}
use Rattle.hem_locks.specs.Clean.{WorksFor, AreInLine}
use Rattle.hem_locks.proofs.Clean.{is_held}
use Rattle.hem_locks.proofs.LockNumbers.{held-few}
use Rattle.hem_locks.proofs.Allowed.{waiting_serves}
use Rattle.hem_locks.proofs.Laws.{parent_there}
use Rattle.hem_windows.specs.Pending.{IsPending, IsOneOf}
use Rattle.hem_tree.proofs.Lawful.{get_within}

-- an object waits: its uplock is held, and no response is under way to it
pub record IsWaiting (p : Protocol) (line : Line) (o : ℕ) : Type 0 where
  pub cell : Cell
  pub at : slice_get line o ≡ Some cell
  pub lock : Lock
  pub up : cell.local.up ≡ Some lock
  pub none : count (is_down_response p) cell.down ≡ 0

-- a child for which one thing stands that is no response to it
waiting_by : (p : Protocol) (c : ℕ) (high low : Cell) → CellsHold p c high low → 1 ≤ length low.up_requests + for_kid c high.local.up → (held low.local.up ≡ 1) × (count (is_down_response p) low.down ≡ 0)
waiting_by p c high low holds one =
    let few = held-few low.local.up in
    let up = holds.uplock in
    (omega arith, omega arith)

-- the object whose request isn't taken yet
top_waits : (p : Protocol) (tree : Tree) (line : Line) (top : ℕ) (lows : List ℕ) → IsTree tree → LocksHold p tree line → IsPending tree line top lows → IsWaiting p line top
top_waits p tree line top lows lawful holds pending = by_parent (parent_of tree top) refl
  where
    by_parent : (parent : Option ℕ) → parent_of tree top ≡ parent → IsWaiting p line top
    by_parent None is =
        let none : length pending.cell.up_requests ≡ 0 = ap length ((holds.objects.object top pending.cell pending.there).top is).up_requests in
        absurd (let asks = pending.asks in omega arith)
    by_parent (Some high) is =
        let early = (lawful_early tree lawful).early top high is in
        let inside = slice_get_within line top pending.cell pending.there in
        let upper = get_within line high (omega arith) in
        let it = waiting_by p (place_among tree high top) upper.0 pending.cell (holds.edges.edge top high upper.0 pending.cell is upper.1 pending.there) (let asks = pending.asks in omega arith) in
        let lock = is_held pending.cell.local.up it.0 in
        record { cell = pending.cell; at = pending.there; lock = lock.0; up = lock.1; none = it.1 }

-- an object for which its parent works
low_waits : (p : Protocol) (tree : Tree) (line : Line) (high low : ℕ) → IsTree tree → LocksHold p tree line → WorksFor tree line high low → (cell : Cell) → slice_get line low ≡ Some cell → IsWaiting p line low
low_waits p tree line high low lawful holds works cell at =
    let c = place_among tree high low in
    let one : for_kid c works.cell.local.up ≡ 1 = ap (for_kid c) works.up ∙ ap (is_kid c) works.holder ∙ same c in
    let it = waiting_by p c works.cell cell (holds.edges.edge low high works.cell cell works.parent works.there at) (omega (arith, one)) in
    let lock = is_held cell.local.up it.0 in
    record { cell = cell; at = at; lock = lock.0; up = lock.1; none = it.1 }
  where
    same : (c : ℕ) → one_if (c == c) ≡ 1
    same c = grind arith

-- each object of the path
chain_waits : (p : Protocol) (tree : Tree) (line : Line) (high : ℕ) (lows : List ℕ) (o : ℕ) (cell : Cell) → IsTree tree → LocksHold p tree line → AreInLine tree line high lows → IsOneOf o lows → slice_get line o ≡ Some cell → IsWaiting p line o
chain_waits p tree line high [] o cell lawful holds works none at = absurd none
chain_waits p tree line high (low ∷ lows) o cell lawful holds works (inl same) at =
    subst (λ k. slice_get line k ≡ Some cell → IsWaiting p line k) (sym same) (λ at. low_waits p tree line high low lawful holds works.0 cell at) at
chain_waits p tree line high (low ∷ lows) o cell lawful holds works (inr rest) at = chain_waits p tree line low lows o cell lawful holds works.1 rest at

pub path_waits : (p : Protocol) (tree : Tree) (line : Line) (top : ℕ) (lows : List ℕ) (o : ℕ) (cell : Cell) → IsTree tree → LocksHold p tree line → IsPending tree line top lows → IsOneOf o (top ∷ lows) → slice_get line o ≡ Some cell → IsWaiting p line o
path_waits p tree line top lows o cell lawful holds pending (inl same) at = subst (λ k. IsWaiting p line k) (sym same) (top_waits p tree line top lows lawful holds pending)
path_waits p tree line top lows o cell lawful holds pending (inr rest) at = chain_waits p tree line top lows o cell lawful holds pending.works rest at

-- an object that waits and fires serves its parent
pub waiting_fires : (p : Protocol) (tree : Tree) (line : Line) (f : Firing) (e : Effect) → IsTree tree → LocksHold p tree line → (it : IsActed p tree line f e) → IsWaiting p line f.object.0 → ServesParent it.template
waiting_fires p tree line f e lawful holds it waits = by_parent (parent_of tree f.object.0) refl
  where
    by_parent : (parent : Option ℕ) → parent_of tree f.object.0 ≡ parent → ServesParent it.template
    by_parent None is = absurd (let free = ((holds.objects.object f.object.0 waits.cell waits.at).top is).uplock in let held = waits.up in cc)
    by_parent (Some high) is =
        let upper = parent_there p tree line f.object.0 high waits.cell lawful is waits.at in
        waiting_serves p tree line f e high upper.0 waits.cell waits.lock holds.edges it is upper.1 waits.at waits.up waits.none

-- it keeps its uplock
pub serving_keeps_up : (p : Protocol) (kind : Kind) (t : TemplateName) (me : Option ℕ) (local : Local) (heads : Heads) (after : Local) (outs : Outs) → ServesParent t → Acts p kind (row_of t) me local heads after outs → after.up ≡ local.up
serving_keeps_up p kind t me local heads after outs (inl is) acts = subst (λ t. Acts p kind (row_of t) me local heads after outs → after.up ≡ local.up) (sym is) (λ acts. acts.up_after) acts
serving_keeps_up p kind t me local heads after outs (inr (inl is)) acts = subst (λ t. Acts p kind (row_of t) me local heads after outs → after.up ≡ local.up) (sym is) (λ acts. acts.up_after) acts
serving_keeps_up p kind t me local heads after outs (inr (inr is)) acts = subst (λ t. Acts p kind (row_of t) me local heads after outs → after.up ≡ local.up) (sym is) (λ acts. acts.up_after) acts
