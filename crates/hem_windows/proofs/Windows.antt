-- While its request is pending, an object fires whole downward blocks.
use Rattle.std.proofs.Common.{◌≡◌, ◌≢◌, refl, ap, sym, ◌∙◌, subst, ℕ, Bool, true, false, ◌&&◌, cond, List, [], ◌∷◌, arith, Option, Some, None, inl, inr, ◌⊎◌}
use Rattle.std.specs.Prelude.{◌==◌, slice_get, is_some, filter_map}
use Rattle.std.proofs.lemmas.Bool.Decides.{eqb_tells}
use Rattle.hem_base.specs.declared.ids.Kind.{Kind}
use Rattle.hem_base.specs.declared.ids.Firing.{Firing}
use Rattle.hem_template.specs.declared.template_name.TemplateName.{TemplateName}
use Rattle.hem_template.specs.declared.template_name.TemplateName.TheVariants.{RqUp, RqUpSelf}
use Rattle.hem_object.specs.declared.state.Lock.{Lock}
use Rattle.hem_syntax.specs.Protocol.{Protocol}
use Rattle.hem_object.specs.Local.{Local}
use Rattle.hem_template.specs.Template.{row_of}
use Rattle.hem_fire.specs.declared.outs.To.{To}
use Rattle.hem_fire.specs.declared.outs.Outs.{Outs}
use Rattle.hem_fire.specs.Heads.{Heads}
use Rattle.hem_tree.specs.Tree.{Tree, IsTree, parent_of, is_child}
use Rattle.hem_system.specs.declared.lane.Lane.TheVariants.{UpRequests}
use Rattle.hem_system.specs.State.{Cell, Line, LineStep, Effect, takes, reaches, effect_of, heads_of, place_of_me, cell_after, line_after, line_step_of, run_line}
use Rattle.hem_system.proofs.Changed.{is_same, not_same}
use Rattle.hem_rows.specs.Acts.{Acts}
use Rattle.hem_rows.specs.Rows.{AllHaveTemplates}
use Rattle.hem_locks.specs.Acted.{IsActed}
use Rattle.hem_locks.specs.Edges.{one_if, LocksHold}
use Rattle.hem_locks.specs.Allowed.{HasTemplate, ServesParent}
use Rattle.hem_locks.specs.Clean.{AreInLine, IsCleanAt, AreCleanAt}
use Rattle.hem_rows.proofs.Choices.{if_some, if_mapped}
use Rattle.hem_locks.proofs.Acted.{acted}
use Rattle.hem_locks.proofs.Lines.{local_of, own_local, other_local}
use Rattle.hem_locks.proofs.States.{line_kept}
use Rattle.hem_locks.proofs.Laws.{clean_path}
use Rattle.hem_windows.specs.Pending.{IsPending, IsOneOf, takes_of, top_after, SendsOn}
use Rattle.hem_trace.specs.Templates.{template_at}
use Rattle.hem_windows.specs.Blocks.{templates_at, are_blocks}
use Rattle.hem_windows.proofs.Waiting.{IsWaiting, path_waits, waiting_fires}
use Rattle.hem_windows.proofs.Pending.{cell_next, pending_stays, pending_rises, same_template, child_named, no_self_child, still_asks}

-- the template of a firing
template_is : (p : Protocol) (tree : Tree) (line : Line) (f : Firing) (e : Effect) → (it : IsActed p tree line f e) → template_at p tree f ≡ Some it.template
template_is p tree line f e it = rw (it.kind_is, it.named, it.has_template) refl

-- one firing more
pub filter_map-some : {A B : Type 0} (g : A → Option B) (x : A) (xs : List A) (y : B) → g x ≡ Some y → filter_map g (x ∷ xs) ≡ y ∷ filter_map g xs
filter_map-some g x xs y is = rw is refl

pub filter_map-none : {A B : Type 0} (g : A → Option B) (x : A) (xs : List A) → g x ≡ None → filter_map g (x ∷ xs) ≡ filter_map g xs
filter_map-none g x xs is = rw is refl

-- what an object that waits fires, by its downlock
serving_blocks : (p : Protocol) (kind : Kind) (t : TemplateName) (me : Option ℕ) (local : Local) (heads : Heads) (after : Local) (outs : Outs) (ts : List TemplateName) → ServesParent t → Acts p kind (row_of t) me local heads after outs → are_blocks (is_some after.down) ts ≡ true → are_blocks (is_some local.down) (t ∷ ts) ≡ true
serving_blocks p kind t me local heads after outs ts (inl is) acts rest =
    subst (λ t. Acts p kind (row_of t) me local heads after outs → are_blocks (is_some local.down) (t ∷ ts) ≡ true) (sym is)
    (λ acts.
    let free : local.down ≡ None = acts.down_before in
    let now : after.down ≡ None = acts.down_after ∙ free in
    rw free (rw now at rest)) acts
serving_blocks p kind t me local heads after outs ts (inr (inl is)) acts rest =
    subst (λ t. Acts p kind (row_of t) me local heads after outs → are_blocks (is_some local.down) (t ∷ ts) ≡ true) (sym is)
    (λ acts.
    let free : local.down ≡ None = acts.down_before in
    let now : after.down ≡ Some acts.down_after.lock = acts.down_after.held in
    rw free (rw now at rest)) acts
serving_blocks p kind t me local heads after outs ts (inr (inr is)) acts rest =
    subst (λ t. Acts p kind (row_of t) me local heads after outs → are_blocks (is_some local.down) (t ∷ ts) ≡ true) (sym is)
    (λ acts.
    let held : local.down ≡ Some acts.down_before.0 = acts.down_before.1 in
    let now : after.down ≡ None = acts.down_after in
    rw held (rw now at rest)) acts

-- one of a list that is clean
clean_one : (line : Line) (ks : List ℕ) (o : ℕ) → AreCleanAt line ks → IsOneOf o ks → IsCleanAt line o
clean_one line [] o clean none = absurd none
clean_one line (k ∷ ks) o clean (inl same) = subst (λ k. IsCleanAt line k) (sym same) clean.0
clean_one line (k ∷ ks) o clean (inr rest) = clean_one line ks o clean.1 rest

-- where the pending request is taken, no object of the path is within a block
free_at_end : (p : Protocol) (tree : Tree) (line : Line) (f : Firing) (e : Effect) (top : ℕ) (lows : List ℕ) (o : ℕ) (cell : Cell) → AllHaveTemplates p → LocksHold p tree line → effect_of p tree line f ≡ Some e → takes_of top f ≡ true → IsPending tree line top lows → IsOneOf o (top ∷ lows) → slice_get line o ≡ Some cell → cell.local.down ≡ None
free_at_end p tree line f e top lows o cell templates holds possible taken pending one at =
    let child = child_named tree top f f.me refl taken in
    let works = subst (λ k. AreInLine tree line k lows) (sym child.2) pending.works in
    let clean = clean_path p tree line f e child.0 lows templates holds possible child.1 works in
    (clean_one line (top ∷ lows) o (subst (λ k. AreCleanAt line (k ∷ lows)) child.2 clean) one cell at).downlock

-- from a line on which the request is pending to the firing that takes it last, an object of the path fires whole blocks
pub window : (p : Protocol) (tree : Tree) (h : List Firing) (line new : Line) (f : Firing) (e : Effect) (top : ℕ) (lows : List ℕ) (o : ℕ) (cell : Cell) → IsTree tree → AllHaveTemplates p → LocksHold p tree line → IsPending tree line top lows → IsOneOf o (top ∷ lows) → slice_get line o ≡ Some cell → SendsOn p tree top h → run_line p tree line h ≡ Some new → effect_of p tree new f ≡ Some e → takes_of (top_after top h) f ≡ true → are_blocks (is_some cell.local.down) (templates_at p tree o h) ≡ true
window p tree [] line new f e top lows o cell lawful templates holds pending one at sends runs possible taken =
    let same : line ≡ new = cc in
    let free = free_at_end p tree line f e top lows o cell templates holds (ap (λ l. effect_of p tree l f) same ∙ possible) taken pending one at in
    rw free refl
window p tree (g ∷ h) line new f e top lows o cell lawful templates holds pending one at sends runs possible taken =
    let step = if_some (λ (step : LineStep). run_line p tree step.next h) (line_step_of p tree line g) new runs in
    let made = if_mapped {B = LineStep} (λ e. record { effect = e; next = line_after tree g e line }) (effect_of p tree line g) step.0 step.1 in
    let d = made.0 in
    let next : run_line p tree (line_after tree g d line) h ≡ Some new = ap (λ (s : LineStep). run_line p tree s.next h) made.2 ∙ step.2 in
    let it = acted p tree line g d templates made.1 in
    let cell_now = cell_next tree g d line o cell at in
    let kept = line_kept p tree line g d lawful templates made.1 holds in
    by_taking it (takes_of top g) refl
    (λ top' lows' one' sends' taken' pending'. window p tree h (line_after tree g d line) new f e top' lows' o (cell_after tree g d o cell) lawful templates kept pending' one' cell_now sends' next possible taken')
  where
    by_object : (d : Effect) (it : IsActed p tree line g d) → are_blocks (is_some (cell_after tree g d o cell).local.down) (templates_at p tree o h) ≡ true → are_blocks (is_some cell.local.down) (templates_at p tree o (g ∷ h)) ≡ true
    by_object d it rest = by_place (eqb_tells g.object.0 o)
      where
        by_place : ((g.object.0 == o) ≡ true) × (g.object.0 ≡ o) ⊎ ((g.object.0 == o) ≡ false) × (g.object.0 ≢ o) → are_blocks (is_some cell.local.down) (templates_at p tree o (g ∷ h)) ≡ true
        by_place (inr other) =
            let off : (o == g.object.0) ≡ false = not_same o g.object.0 (λ same. other.1 (sym same)) in
            let none : cond (g.object.0 == o) (template_at p tree g) None ≡ None = ap (λ b. cond b (template_at p tree g) None) other.0 in
            let local = other_local tree g d o cell off in
            ap (are_blocks (is_some cell.local.down)) (filter_map-none (λ f. cond (f.object.0 == o) (template_at p tree f) None) g h none)
            ∙ ap (λ (l : Local). are_blocks (is_some l.down) (templates_at p tree o h)) (sym local) ∙ rest
        by_place (inl own) =
            let on : (o == g.object.0) ≡ true = ap (λ k. o == k) own.1 ∙ is_same o in
            let some : cond (g.object.0 == o) (template_at p tree g) None ≡ Some it.template = ap (λ b. cond b (template_at p tree g) None) own.0 ∙ template_is p tree line g d it in
            let waits = subst (λ k. IsWaiting p line k) (sym own.1) (path_waits p tree line top lows o cell lawful holds pending one at) in
            let serves = waiting_fires p tree line g d lawful holds it waits in
            let here : slice_get line g.object.0 ≡ Some cell = ap (slice_get line) own.1 ∙ at in
            let local = local_of line g.object.0 cell it.local here it.there in
            let after = own_local tree g d o cell on in
            let block = serving_blocks p it.kind it.template (place_of_me tree g.object.0 g.me) it.local (heads_of tree line g.object.0 g.me) d.after d.outs (templates_at p tree o h) serves it.acts
            (ap (λ (l : Local). are_blocks (is_some l.down) (templates_at p tree o h)) (sym after) ∙ rest) in
            ap (are_blocks (is_some cell.local.down)) (filter_map-some (λ f. cond (f.object.0 == o) (template_at p tree f) None) g h it.template some)
            ∙ ap (λ (l : Local). are_blocks (is_some l.down) (it.template ∷ templates_at p tree o h)) (sym local) ∙ block

    by_taking : {d : Effect} (it : IsActed p tree line g d) (b : Bool) → takes_of top g ≡ b
        → ((top' : ℕ) (lows' : List ℕ) → IsOneOf o (top' ∷ lows') → SendsOn p tree top' h → takes_of (top_after top' h) f ≡ true → IsPending tree (line_after tree g d line) top' lows' → are_blocks (is_some (cell_after tree g d o cell).local.down) (templates_at p tree o h) ≡ true)
        → are_blocks (is_some cell.local.down) (templates_at p tree o (g ∷ h)) ≡ true
    by_taking {d = d} it false is rest =
        let stays : cond (takes_of top g) g.object.0 top ≡ top = ap (λ b. cond b g.object.0 top) is in
        by_object d it (rest top lows one (subst (λ k. SendsOn p tree k h) stays sends.1) (subst (λ k. takes_of (top_after k h) f ≡ true) stays taken) (pending_stays p tree line g d top lows lawful holds it pending is))
    by_taking {d = d} it true is rest =
        let rises : cond (takes_of top g) g.object.0 top ≡ g.object.0 = ap (λ b. cond b g.object.0 top) is in
        by_object d it (rest g.object.0 (top ∷ lows) (inr one) (subst (λ k. SendsOn p tree k h) rises sends.1) (subst (λ k. takes_of (top_after k h) f ≡ true) rises taken) (pending_rises p tree line g d top lows lawful holds it pending is (sends.0 is)))

-- a firing that sends a request up begins a path with its object, whose downlock is free
pub record Begins (tree : Tree) (line : Line) (o : ℕ) : Type 0 where
  pub pending : IsPending tree line o []
  pub free : pending.cell.local.down ≡ None

begins_with : (p : Protocol) (tree : Tree) (line : Line) (f : Firing) (e : Effect) → IsTree tree → (it : IsActed p tree line f e) → one_if (reaches tree f e.outs.to f.object.0 UpRequests) ≡ 1 → e.after.down ≡ None → Begins tree (line_after tree f e line) f.object.0
begins_with p tree line f e lawful it goes free =
    let o = f.object.0 in
    let cell = if_mapped (λ (c : Cell). c.local) (slice_get line o) it.local it.there in
    let not : takes tree f e.outs o UpRequests ≡ false = last_false (e.outs.taken_request && takes_of o f) (is_child tree o o) (no_self_child tree lawful o (parent_of tree o) refl) in
    record {
      pending = record {
        cell = cell_after tree f e o cell.0;
        there = cell_next tree f e line o cell.0 cell.1;
        asks = omega (arith, still_asks tree f e o cell.0 not, goes);
        works = tt;
      };
      free = ap (λ (l : Local). l.down) (own_local tree f e o cell.0 (is_same o)) ∙ free;
    }
  where
    last_false : (a b : Bool) → b ≡ false → (a && b) ≡ false
    last_false true b is = is
    last_false false b is = refl

pub begins : (p : Protocol) (tree : Tree) (line : Line) (f : Firing) (e : Effect) → IsTree tree → AllHaveTemplates p → effect_of p tree line f ≡ Some e → HasTemplate p tree f RqUp ⊎ HasTemplate p tree f RqUpSelf → Begins tree (line_after tree f e line) f.object.0
begins p tree line f e lawful templates possible has = by_template (acted p tree line f e templates possible) has
  where
    by_template : (it : IsActed p tree line f e) → HasTemplate p tree f RqUp ⊎ HasTemplate p tree f RqUpSelf → Begins tree (line_after tree f e line) f.object.0
    by_template it (inl has) =
        let acts = subst (λ t. Acts p it.kind (row_of t) (place_of_me tree f.object.0 f.me) it.local (heads_of tree line f.object.0 f.me) e.after e.outs) (same_template p tree line f e RqUp it has) it.acts in
        begins_with p tree line f e lawful it (ap (λ (t : To). one_if (reaches tree f t f.object.0 UpRequests)) acts.sent.goes ∙ ap one_if (is_same f.object.0)) (acts.down_after ∙ acts.down_before)
    by_template it (inr has) =
        let acts = subst (λ t. Acts p it.kind (row_of t) (place_of_me tree f.object.0 f.me) it.local (heads_of tree line f.object.0 f.me) e.after e.outs) (same_template p tree line f e RqUpSelf it has) it.acts in
        begins_with p tree line f e lawful it (ap (λ (t : To). one_if (reaches tree f t f.object.0 UpRequests)) acts.sent.goes ∙ ap one_if (is_same f.object.0)) (acts.down_after ∙ acts.down_before)

-- from a firing that sends a request up to the last that takes it or sends it on, its object fires whole blocks
pub window_of : (p : Protocol) (tree : Tree) (line new : Line) (first last : Firing) (e d : Effect) (h : List Firing) → IsTree tree → AllHaveTemplates p → LocksHold p tree line → HasTemplate p tree first RqUp ⊎ HasTemplate p tree first RqUpSelf → effect_of p tree line first ≡ Some e → SendsOn p tree first.object.0 h → run_line p tree (line_after tree first e line) h ≡ Some new → effect_of p tree new last ≡ Some d → takes_of (top_after first.object.0 h) last ≡ true → are_blocks false (templates_at p tree first.object.0 h) ≡ true
window_of p tree line new first last e d h lawful templates holds has possible sends runs then taken =
    let it = begins p tree line first e lawful templates possible has in
    let blocks = window p tree h (line_after tree first e line) new last d first.object.0 [] first.object.0 it.pending.cell lawful templates (line_kept p tree line first e lawful templates possible holds) it.pending (inl refl) it.pending.there sends runs then taken in
    ap (λ (l : Option Lock). are_blocks (is_some l) (templates_at p tree first.object.0 h)) (sym it.free) ∙ blocks
