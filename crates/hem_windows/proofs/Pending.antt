-- A pending request stays pending until it is taken, and then the next parent's is.
use Rattle.std.proofs.Common.{◌≡◌, ◌≢◌, refl, ap, sym, ◌∙◌, subst, ℕ, ◌+◌, ◌≤◌, Bool, true, false, ◌&&◌, List, [], ◌∷◌, length, arith, zero-add, Option, Some, None, inl, inr, ◌⊎◌}
use Rattle.std.specs.Prelude.{◌==◌, slice_get, option_map, Ok}
use Rattle.std.specs.Option.{option_map_or}
use Rattle.std.proofs.lemmas.Bool.{eqb-true}
use Rattle.std.proofs.lemmas.Bool.Decides.{eqb_tells}
use Rattle.hem_base.specs.declared.ids.ObjectId.{ObjectId}
use Rattle.hem_base.specs.declared.ids.Firing.{Firing}
use Rattle.hem_template.specs.declared.template_name.TemplateName.{TemplateName}
use Rattle.hem_template.specs.declared.template_name.TemplateName.TheVariants.{RqUp}
use Rattle.hem_object.specs.declared.state.By.TheVariants.{Kid}
use Rattle.hem_syntax.specs.Protocol.{Protocol, rule_named}
use Rattle.hem_object.specs.Local.{Local}
use Rattle.hem_template.specs.Template.{row_of, template_of}
use Rattle.hem_fire.specs.View.{requester}
use Rattle.hem_fire.specs.declared.outs.To.{To}
use Rattle.hem_tree.specs.Tree.{Tree, IsTree, parent_of, is_number, is_child, place_among}
use Rattle.hem_system.specs.declared.lane.Lane.TheVariants.{UpRequests}
use Rattle.hem_system.specs.State.{Cell, Line, Effect, takes, reaches, heads_of, place_of_me, cell_after, line_after}
use Rattle.hem_system.proofs.Takers.{parent_is}
use Rattle.hem_system.proofs.Changed.{is_same}
use Rattle.hem_rows.specs.Acts.{Acts}
use Rattle.hem_locks.specs.Acted.{IsActed}
use Rattle.hem_locks.specs.Edges.{one_if, LocksHold}
use Rattle.hem_locks.specs.Allowed.{HasTemplate}
use Rattle.hem_locks.specs.Clean.{AreInLine}
use Rattle.hem_rows.proofs.Choices.{if_mapped}
use Rattle.hem_locks.proofs.Counts.{changed, length-changed}
use Rattle.hem_locks.proofs.Lines.{local_of, own_local, other_local}
use Rattle.hem_locks.proofs.Places.{not_own_child}
use Rattle.hem_windows.specs.Pending.{IsPending, IsOneOf, takes_of}
use Rattle.hem_system.proofs.Own.{slice_get-map_each}
use Rattle.hem_windows.proofs.Waiting.{IsWaiting, path_waits, waiting_fires, serving_keeps_up}

-- a cell of the line after a firing
pub cell_next : (tree : Tree) (f : Firing) (e : Effect) (line : Line) (k : ℕ) (cell : Cell) → slice_get line k ≡ Some cell → slice_get (line_after tree f e line) k ≡ Some (cell_after tree f e k cell)
cell_next tree f e line k cell at = rw zero-add at (slice_get-map_each (cell_after tree f e) 0 line k) ∙ ap (option_map (cell_after tree f e k)) at

-- each object of a list keeps its uplock
abbrev pub KeepUp : Tree → Line → Firing → Effect → List ℕ → Type 0
KeepUp tree line f e ks = (k : ℕ) (cell : Cell) → IsOneOf k ks → slice_get line k ≡ Some cell → (cell_after tree f e k cell).local.up ≡ cell.local.up

-- then each works for the next as before
pub still_works : (tree : Tree) (line : Line) (f : Firing) (e : Effect) (high : ℕ) (lows : List ℕ) → KeepUp tree line f e (high ∷ lows) → AreInLine tree line high lows → AreInLine tree (line_after tree f e line) high lows
still_works tree line f e high [] keeps works = tt
still_works tree line f e high (low ∷ lows) keeps works =
    let it = works.0 in (
      record {
        parent = it.parent;
        cell = cell_after tree f e high it.cell;
        there = cell_next tree f e line high it.cell it.there;
        lock = it.lock;
        up = keeps high it.cell (inl refl) it.there ∙ it.up;
        holder = it.holder;
      },
      still_works tree line f e low lows (λ k cell one at. keeps k cell (inr one) at) works.1,
    )

-- a request that isn't taken stays
not_taken : (a b c : Bool) → b ≡ false → (a && b && c) ≡ false
not_taken true true c is = cc
not_taken true false c is = refl
not_taken false b c is = refl

pub still_asks : (tree : Tree) (f : Firing) (e : Effect) (k : ℕ) (cell : Cell) → takes tree f e.outs k UpRequests ≡ false → length cell.up_requests + one_if (reaches tree f e.outs.to k UpRequests) ≤ length (cell_after tree f e k cell).up_requests
still_asks tree f e k cell not =
    let sends = reaches tree f e.outs.to k UpRequests in
    let size = length-changed false sends e.outs.message cell.up_requests (λ never. absurd cc) in
    let same : length (cell_after tree f e k cell).up_requests ≡ length (changed false sends e.outs.message cell.up_requests) = ap (λ b. length (changed b sends e.outs.message cell.up_requests)) not in
    omega (arith, size, same)

-- a firing that doesn't take the pending request leaves it pending
pub pending_stays : (p : Protocol) (tree : Tree) (line : Line) (f : Firing) (e : Effect) (top : ℕ) (lows : List ℕ) → IsTree tree → LocksHold p tree line → IsActed p tree line f e → IsPending tree line top lows → takes_of top f ≡ false → IsPending tree (line_after tree f e line) top lows
pending_stays p tree line f e top lows lawful holds it pending not =
    let none : takes tree f e.outs top UpRequests ≡ false = not_taken e.outs.taken_request (takes_of top f) (is_child tree top f.object.0) not in
    record {
      cell = cell_after tree f e top pending.cell;
      there = cell_next tree f e line top pending.cell pending.there;
      asks = (let asks = pending.asks in omega (arith, still_asks tree f e top pending.cell none));
      works = still_works tree line f e top lows (λ k cell one at. keeps k cell one at (eqb_tells k f.object.0)) pending.works;
    }
  where
    keeps : (k : ℕ) (cell : Cell) → IsOneOf k (top ∷ lows) → slice_get line k ≡ Some cell → ((k == f.object.0) ≡ true) × (k ≡ f.object.0) ⊎ ((k == f.object.0) ≡ false) × (k ≢ f.object.0) → (cell_after tree f e k cell).local.up ≡ cell.local.up
    keeps k cell one at (inr other) = ap (λ (l : Local). l.up) (other_local tree f e k cell other.0)
    keeps k cell one at (inl own) =
        let waits = subst (λ k. IsWaiting p line k) own.1 (path_waits p tree line top lows k cell lawful holds pending one at) in
        let serves = waiting_fires p tree line f e lawful holds it waits in
        let kept = serving_keeps_up p it.kind it.template (place_of_me tree f.object.0 f.me) it.local (heads_of tree line f.object.0 f.me) e.after e.outs serves it.acts in
        let here : slice_get line f.object.0 ≡ Some cell = ap (slice_get line) (sym own.1) ∙ at in
        ap (λ (l : Local). l.up) (own_local tree f e k cell own.0) ∙ kept ∙ ap (λ (l : Local). l.up) (local_of line f.object.0 cell it.local here it.there)

-- a rule has one template
pub same_template : (p : Protocol) (tree : Tree) (line : Line) (f : Firing) (e : Effect) (t : TemplateName) → (it : IsActed p tree line f e) → HasTemplate p tree f t → it.template ≡ t
same_template p tree line f e t it has =
    let kinds : Some it.kind ≡ Some has.kind = sym it.kind_is ∙ has.kind_is in
    let kind : it.kind ≡ has.kind = cc in
    let rules : Some it.rule ≡ Some has.rule = sym it.named ∙ ap (λ k. rule_named p k f.rule) kind ∙ has.named in
    let rule : it.rule ≡ has.rule = cc in
    let both : Ok it.template ≡ Ok t = sym it.has_template ∙ ap (λ k. template_of p k it.rule) kind ∙ ap (template_of p has.kind) rule ∙ has.template in
    cc

-- the child that a firing takes from
pub child_named : (tree : Tree) (top : ℕ) (f : Firing) (me : Option ObjectId) → f.me ≡ me → option_map_or (λ child. child.0 == top) me false ≡ true → (child : ObjectId) × (f.me ≡ Some child) × (child.0 ≡ top)
child_named tree top f None is takes = cc
child_named tree top f (Some child) is takes = (child, is, eqb-true child.0 top takes)

pub no_self_child : (tree : Tree) → IsTree tree → (o : ℕ) (parent : Option ℕ) → parent_of tree o ≡ parent → is_child tree o o ≡ false
no_self_child tree lawful o None is = ap (λ (x : Option ℕ). is_number x o) is
no_self_child tree lawful o (Some high) is = not_own_child tree lawful o high is

-- a firing that takes the pending request and sends it on leaves the next one pending
pub pending_rises : (p : Protocol) (tree : Tree) (line : Line) (f : Firing) (e : Effect) (top : ℕ) (lows : List ℕ) → IsTree tree → LocksHold p tree line → IsActed p tree line f e → IsPending tree line top lows → takes_of top f ≡ true → HasTemplate p tree f RqUp → IsPending tree (line_after tree f e line) f.object.0 (top ∷ lows)
pending_rises p tree line f e top lows lawful holds it pending taken has =
    let o = f.object.0 in
    let me = place_of_me tree o f.me in
    let upper = if_mapped (λ (c : Cell). c.local) (slice_get line o) it.local it.there in
    let acts = subst (λ t. Acts p it.kind (row_of t) me it.local (heads_of tree line o f.me) e.after e.outs) (same_template p tree line f e RqUp it has) it.acts in
    let child = child_named tree top f f.me refl taken in
    let own : is_child tree child.0.0 o ≡ true = rw child.1 at it.own_child in
    let place : me ≡ Some (place_among tree o top) = ap (place_of_me tree o) child.1 ∙ ap (λ k. Some (place_among tree o k)) child.2 in
    let lock = acts.up_after in
    let holder : Some (Kid (place_among tree o top)) ≡ Some lock.lock.by = sym (ap (λ m. Some (requester m)) place) ∙ lock.holder in
    let mine : (cell_after tree f e o upper.0).local ≡ e.after = own_local tree f e o upper.0 (is_same o) in
    let not : takes tree f e.outs o UpRequests ≡ false = last_false (e.outs.taken_request && takes_of o f) (is_child tree o o) (no_self_child tree lawful o (parent_of tree o) refl) in
    let goes : one_if (reaches tree f e.outs.to o UpRequests) ≡ 1 = ap (λ (t : To). one_if (reaches tree f t o UpRequests)) acts.sent.goes ∙ ap one_if (is_same o) in
    record {
      cell = cell_after tree f e o upper.0;
      there = cell_next tree f e line o upper.0 upper.1;
      asks = omega (arith, still_asks tree f e o upper.0 not, goes);
      works = (
        record {
          parent = subst (λ k. parent_of tree k ≡ Some o) child.2 (parent_is tree child.0.0 o own);
          cell = cell_after tree f e o upper.0;
          there = cell_next tree f e line o upper.0 upper.1;
          lock = lock.lock;
          up = ap (λ (l : Local). l.up) mine ∙ lock.held;
          holder = (let same : Kid (place_among tree o top) ≡ lock.lock.by = cc in sym same);
        },
        still_works tree line f e top lows (λ k cell one at. keeps acts.up_before k cell one at (eqb_tells k o)) pending.works,
      );
    }
  where
    last_false : (a b : Bool) → b ≡ false → (a && b) ≡ false
    last_false true b is = is
    last_false false b is = refl

    keeps : it.local.up ≡ None → (k : ℕ) (cell : Cell) → IsOneOf k (top ∷ lows) → slice_get line k ≡ Some cell → ((k == f.object.0) ≡ true) × (k ≡ f.object.0) ⊎ ((k == f.object.0) ≡ false) × (k ≢ f.object.0) → (cell_after tree f e k cell).local.up ≡ cell.local.up
    keeps free k cell one at (inr other) = ap (λ (l : Local). l.up) (other_local tree f e k cell other.0)
    keeps free k cell one at (inl own) =
        let waits = subst (λ k. IsWaiting p line k) own.1 (path_waits p tree line top lows k cell lawful holds pending one at) in
        let local = local_of line f.object.0 waits.cell it.local waits.at it.there in
        let none : waits.cell.local.up ≡ None = sym (ap (λ (l : Local). l.up) local) ∙ free in
        absurd (let held = waits.up in cc)
