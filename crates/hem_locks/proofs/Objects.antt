-- A firing keeps the invariant at each object of its line.
use Rattle.std.proofs.Common.{◌≡◌, ◌≢◌, refl, ap, sym, ◌∙◌, subst, ℕ, zero, suc, ◌+◌, ◌<◌, Bool, true, false, List, [], ◌∷◌, length, arith, Option, Some, None, inl, inr, ◌⊎◌}
use Rattle.std.specs.Prelude.{◌==◌, slice_get}
use Rattle.std.proofs.lemmas.Bool.Decides.{eqb_tells}
use Rattle.hem_base.specs.Sets.{has_bit}
use Rattle.hem_base.specs.declared.ids.KidSet.{KidSet}
use Rattle.hem_base.specs.declared.ids.Message.{Message}
use Rattle.hem_base.specs.declared.ids.Firing.{Firing}
use Rattle.hem_base.specs.declared.ids.Kind.{Kind}
use Rattle.hem_base.specs.declared.ids.Kind.TheVariants.{Root}
use Rattle.hem_syntax.specs.declared.rule.Origin.{Origin}
use Rattle.hem_template.specs.declared.template_name.TemplateName.{TemplateName}
use Rattle.hem_template.specs.declared.template_name.TemplateName.TheVariants.{ImmSelf, ImmDown, ImmUp, RqUp, RqUpSelf, RqUpDown, RqDownSelf, RqDownDown, RsDown, RsDownSelf, RsDownRqDown, RsUpDown, RsUpUp, RsUpSelf}
use Rattle.hem_object.specs.declared.state.By.{By}
use Rattle.hem_object.specs.declared.state.Lock.{Lock}
use Rattle.hem_syntax.specs.Protocol.{Protocol}
use Rattle.hem_object.specs.Local.{Local}
use Rattle.hem_template.specs.Template.{row_of}
use Rattle.hem_template.specs.declared.row.Taking.{Taking}
use Rattle.hem_template.specs.declared.row.Sending.{Sending}
use Rattle.hem_template.specs.declared.row.Taking.TheVariants.{NothingTaken, FromRequester, ParentRequest, ParentResponse, FromKids}
use Rattle.hem_template.specs.declared.row.Sending.TheVariants.{NothingSent, ToRequester, RequestUp, ResponseUp, ToOthers, ToKids}
use Rattle.hem_fire.specs.declared.outs.Outs.{Outs}
use Rattle.hem_fire.specs.Heads.{Heads}
use Rattle.hem_fire.specs.Sends.{has_parent}
use Rattle.hem_tree.specs.Tree.{Tree, IsTree, kind_of, parent_of, is_number, is_child, children_of}
use Rattle.hem_system.specs.declared.lane.Lane.TheVariants.{Down}
use Rattle.hem_system.specs.State.{Cell, Line, Effect, map_each, heads_of, place_of_me, cell_after, line_after}
use Rattle.hem_system.proofs.Changed.{lists_stay, is_same}
use Rattle.hem_rows.specs.Acts.{is_down_request, is_down_response, takes_parent, AreHeads, IsTaken, IsSent, Acts}
use Rattle.hem_locks.specs.Acted.{IsActed}
use Rattle.hem_locks.specs.Edges.{one_if, for_parent, held, AwaitsOne, IsTop, ObjectHolds, ObjectsHold}
use Rattle.hem_locks.proofs.Counts.{changed, head_counts}
use Rattle.hem_locks.proofs.EdgeStep.{Flow}
use Rattle.hem_locks.proofs.Sums.{is_up_request, is_up_response, to_requester-up, sums_below}
use Rattle.hem_locks.proofs.Places.{within, flow_below}
use Rattle.hem_locks.proofs.Lines.{cell_now, head_of, local_of, own_local, other_local}
use Rattle.hem_locks.proofs.Clean.{not_held}

-- a new downlock awaits a child
taken-awaits_one : (o : Origin) (asked : Option By) (targets : KidSet) (children : ℕ) (now : Option Lock) → IsTaken o asked targets now → (c : ℕ) × (c < children) × (has_bit targets.0 c ≡ true) → (lock : Lock) → now ≡ Some lock → AwaitsOne lock children
taken-awaits_one o asked targets children now taken reached lock is =
    let both : Some taken.lock ≡ Some lock = sym taken.held ∙ is in
    let same : taken.lock ≡ lock = cc in
    let awaited : lock.awaited ≡ targets = ap (λ (l : Lock). l.awaited) (sym same) ∙ taken.awaits in
    record { kid = reached.0; there = reached.1; awaited = rw awaited reached.2 }

-- a held downlock awaits a child after a firing
awaits_one-after : (p : Protocol) (kind : Kind) (t : TemplateName) (me : Option ℕ) (local : Local) (heads : Heads) (after : Local) (outs : Outs) → Acts p kind (row_of t) me local heads after outs → ((lock : Lock) → local.down ≡ Some lock → AwaitsOne lock (length local.dir)) → (lock : Lock) → after.down ≡ Some lock → AwaitsOne lock (length local.dir)
awaits_one-after p kind ImmSelf me local heads after outs acts before lock is = before lock (sym acts.down_after ∙ is)
awaits_one-after p kind ImmDown me local heads after outs acts before lock is = before lock (sym acts.down_after ∙ is)
awaits_one-after p kind ImmUp me local heads after outs acts before lock is = before lock (sym acts.down_after ∙ is)
awaits_one-after p kind RqUp me local heads after outs acts before lock is = before lock (sym acts.down_after ∙ is)
awaits_one-after p kind RqUpSelf me local heads after outs acts before lock is = before lock (sym acts.down_after ∙ is)
awaits_one-after p kind RqUpDown me local heads after outs acts before lock is = taken-awaits_one _ _ acts.targets (length local.dir) after.down acts.down_after acts.reached lock is
awaits_one-after p kind RqDownSelf me local heads after outs acts before lock is = taken-awaits_one _ _ acts.targets (length local.dir) after.down acts.down_after acts.reached lock is
awaits_one-after p kind RqDownDown me local heads after outs acts before lock is = taken-awaits_one _ _ acts.targets (length local.dir) after.down acts.down_after acts.reached lock is
awaits_one-after p kind RsDown me local heads after outs acts before lock is = before lock (sym acts.down_after ∙ is)
awaits_one-after p kind RsDownSelf me local heads after outs acts before lock is = before lock (sym acts.down_after ∙ is)
awaits_one-after p kind RsDownRqDown me local heads after outs acts before lock is = taken-awaits_one _ _ acts.targets (length local.dir) after.down acts.down_after acts.reached lock is
awaits_one-after p kind RsUpDown me local heads after outs acts before lock is = let none : after.down ≡ None = acts.down_after in cc
awaits_one-after p kind RsUpUp me local heads after outs acts before lock is = let none : after.down ≡ None = acts.down_after in cc
awaits_one-after p kind RsUpSelf me local heads after outs acts before lock is = let none : after.down ≡ None = acts.down_after in cc

-- an object without a parent is the root
root_kind : (tree : Tree) → IsTree tree → (o : ℕ) (kind : Kind) → kind_of tree o ≡ Some kind → parent_of tree o ≡ None → kind ≡ Root
root_kind tree lawful zero kind is none =
    let here : kind_of tree 0 ≡ Some Root = rw lawful.root refl in
    let both : Some kind ≡ Some Root = sym is ∙ here in
    cc
root_kind tree lawful (suc o) kind is none =
    let inside = within tree (suc o) kind is in
    let it = lawful.parents (suc o) (omega arith) inside in
    absurd (let some = sym none ∙ it.1 in cc)

-- the root takes nothing from a parent
none_taken : (p : Protocol) (taking : Taking) (local : Local) (heads : Heads) → heads.parent ≡ None → AreHeads p taking local heads → takes_parent taking ≡ false
none_taken p NothingTaken local heads none there = refl
none_taken p FromRequester local heads none there = refl
none_taken p FromKids local heads none there = refl
none_taken p ParentRequest local heads none there = absurd (let some = sym none ∙ there.1 in cc)
none_taken p ParentResponse local heads none there = absurd (let some = sym none ∙ there.1 in cc)

-- and sends nothing up
no_parent : (kind : Kind) → kind ≡ Root → has_parent kind ≡ true → ⊥
no_parent kind root parent = let none : has_parent kind ≡ false = ap has_parent root in cc

none_up : (p : Protocol) (kind : Kind) (sending : Sending) (asked : Option By) (targets : KidSet) (outs : Outs) → kind ≡ Root → IsSent p kind sending asked targets outs → (is_up_request outs.to ≡ false) × (is_up_response outs.to ≡ false)
none_up p kind NothingSent asked targets outs root sent = (rw sent refl, rw sent refl)
none_up p kind ToRequester asked targets outs root sent = let it = to_requester-up sent.by in (ap is_up_request sent.goes ∙ it.0, ap is_up_response sent.goes ∙ it.1)
none_up p kind RequestUp asked targets outs root sent = absurd (no_parent kind root sent.parent)
none_up p kind ResponseUp asked targets outs root sent = absurd (no_parent kind root sent.parent)
none_up p kind ToOthers asked targets outs root sent = (rw sent.kids.goes refl, rw sent.kids.goes refl)
none_up p kind ToKids asked targets outs root sent = (rw sent.goes refl, rw sent.goes refl)

none_counted : (test : Message → Bool) (taken : Bool) (ms : List Message) → ms ≡ [] → head_counts test taken ms ≡ 0
none_counted test true ms empty = rw empty refl
none_counted test false ms empty = refl

unchanged : (m : Message) (ms : List Message) → ms ≡ [] → changed false false m ms ≡ []
unchanged m ms empty = rw empty refl

-- the root after a firing of its own
top-after : (p : Protocol) (tree : Tree) (line : Line) (f : Firing) (e : Effect) (cell : Cell) → IsTree tree → IsActed p tree line f e → slice_get line f.object.0 ≡ Some cell → parent_of tree f.object.0 ≡ None → IsTop cell → IsTop (cell_after tree f e f.object.0 cell)
top-after p tree line f e cell lawful it at none top =
    let o = f.object.0 in
    let heads = heads_of tree line o f.me in
    let local = local_of line o cell it.local at it.there in
    let root = root_kind tree lawful o it.kind it.kind_is none in
    let head : slice_get cell.down 0 ≡ heads.parent = sym (head_of line o cell Down at) in
    let no_head : heads.parent ≡ None = sym head ∙ ap (λ (ms : List Message). slice_get ms 0) top.down in
    let taken : e.outs.taken_parent ≡ false = it.acts.taken_parent ∙ none_taken p (row_of it.template).taking it.local heads no_head it.acts.there in
    let up = none_up p it.kind (row_of it.template).sending _ it.acts.targets e.outs root it.acts.sent in
    let sums = sums_below p it.kind it.template (place_of_me tree o f.me) it.local heads e.after e.outs cell.down head it.acts in
    let no_requests : one_if (is_up_request e.outs.to) ≡ 0 = ap one_if up.0 in
    let no_responses : one_if (is_up_response e.outs.to) ≡ 0 = ap one_if up.1 in
    let none_held : held it.local.up ≡ 0 = ap (λ (l : Local). held l.up) local ∙ ap held top.uplock in
    let none_for : for_parent it.local.down ≡ 0 = ap (λ (l : Local). for_parent l.down) local ∙ top.downlock in
    let no_answers = none_counted (is_down_response p) e.outs.taken_parent cell.down top.down in
    let no_asks = none_counted (is_down_request p) e.outs.taken_parent cell.down top.down in
    let child : is_child tree o o ≡ false = ap (λ (x : Option ℕ). is_number x o) none in
    let flow = flow_below tree f e.outs o (is_same o) child in
    let own = own_local tree f e o cell (is_same o) in
    record {
      uplock = ap (λ (l : Local). l.up) own ∙ not_held e.after.up (omega (arith, sums.uplock, no_requests, none_held));
      downlock = ap (λ (l : Local). for_parent l.down) own ∙ (omega (arith, sums.downlock, no_responses, none_for, no_asks));
      up_requests = ap (λ (x : Flow). changed x.takes_request x.sends_request e.outs.message cell.up_requests) flow ∙ ap (λ b. changed false b e.outs.message cell.up_requests) up.0 ∙ unchanged e.outs.message cell.up_requests top.up_requests;
      up_responses = ap (λ (x : Flow). changed x.takes_response x.sends_response e.outs.message cell.up_responses) flow ∙ ap (λ b. changed false b e.outs.message cell.up_responses) up.1 ∙ unchanged e.outs.message cell.up_responses top.up_responses;
      down = ap (λ (x : Flow). changed x.takes_down x.sends_down e.outs.message cell.down) flow ∙ ap (λ b. changed b false e.outs.message cell.down) taken ∙ unchanged e.outs.message cell.down top.down;
    }

-- the object that fires
object_own : (p : Protocol) (tree : Tree) (line : Line) (f : Firing) (e : Effect) (cell : Cell) → IsTree tree → IsActed p tree line f e → slice_get line f.object.0 ≡ Some cell → ObjectHolds tree f.object.0 cell → ObjectHolds tree f.object.0 (cell_after tree f e f.object.0 cell)
object_own p tree line f e cell lawful it at holds =
    let o = f.object.0 in
    let own = own_local tree f e o cell (is_same o) in
    let local = local_of line o cell it.local at it.there in
    let size : length e.after.dir ≡ length cell.local.dir = it.acts.children ∙ ap (λ (l : Local). length l.dir) local in
    let size_now : length (cell_after tree f e o cell).local.dir ≡ length it.local.dir = ap (λ (l : Local). length l.dir) own ∙ it.acts.children in
    record {
      children = ap (λ (l : Local). length l.dir) own ∙ size ∙ holds.children;
      awaits = λ lock is.
          let before = subst (λ (l : Local). (lock : Lock) → l.down ≡ Some lock → AwaitsOne lock (length l.dir)) (sym local) holds.awaits in
          let now : e.after.down ≡ Some lock = sym (ap (λ (l : Local). l.down) own) ∙ is in
          subst (λ n. AwaitsOne lock n) (sym size_now) (awaits_one-after p it.kind it.template (place_of_me tree o f.me) it.local (heads_of tree line o f.me) e.after e.outs it.acts before lock now);
      top = λ none. top-after p tree line f e cell lawful it at none (holds.top none);
    }

-- and another
object_other : (tree : Tree) (f : Firing) (e : Effect) (k : ℕ) (cell : Cell) → (k == f.object.0) ≡ false → ObjectHolds tree k cell → ObjectHolds tree k (cell_after tree f e k cell)
object_other tree f e k cell other holds =
    let same = sym (other_local tree f e k cell other) in
    record {
      children = subst (λ (l : Local). length l.dir ≡ length (children_of tree k)) same holds.children;
      awaits = subst (λ (l : Local). (lock : Lock) → l.down ≡ Some lock → AwaitsOne lock (length l.dir)) same holds.awaits;
      top = λ none.
          let top = holds.top none in
          let child : is_child tree k f.object.0 ≡ false = ap (λ (x : Option ℕ). is_number x f.object.0) none in
          let stays = lists_stay tree f e.outs k cell other child in
          record {
            uplock = ap (λ (l : Local). l.up) (sym same) ∙ top.uplock;
            downlock = ap (λ (l : Local). for_parent l.down) (sym same) ∙ top.downlock;
            up_requests = ap (λ (x : Cell). x.up_requests) stays ∙ top.up_requests;
            up_responses = ap (λ (x : Cell). x.up_responses) stays ∙ top.up_responses;
            down = ap (λ (x : Cell). x.down) stays ∙ top.down;
          };
    }

-- a firing keeps the invariant at each object
pub objects_kept : (p : Protocol) (tree : Tree) (line : Line) (f : Firing) (e : Effect) → IsTree tree → IsActed p tree line f e → ObjectsHold tree line → ObjectsHold tree (line_after tree f e line)
objects_kept p tree line f e lawful it holds =
    record {
      object = λ k cell at.
          let now = cell_now tree f e line k cell at in
          subst (λ (x : Cell). ObjectHolds tree k x) now.2 (by_object k now.0 now.1 (eqb_tells k f.object.0));
    }
  where
    by_object : (k : ℕ) (cell : Cell) → slice_get line k ≡ Some cell → ((k == f.object.0) ≡ true) × (k ≡ f.object.0) ⊎ ((k == f.object.0) ≡ false) × (k ≢ f.object.0) → ObjectHolds tree k (cell_after tree f e k cell)
    by_object k cell at (inl own) =
        subst (λ k. slice_get line k ≡ Some cell → ObjectHolds tree k (cell_after tree f e k cell)) (sym own.1)
        (λ at. object_own p tree line f e cell lawful it at (holds.object f.object.0 cell at)) at
    by_object k cell at (inr other) = object_other tree f e k cell other.0 (holds.object k cell at)

-- and the number of cells
pub length-map_each : {A B : Type 0} (g : ℕ → A → B) (k : ℕ) (xs : List A) → length (map_each g k xs) ≡ length xs
length-map_each g k [] = refl
length-map_each g k (x ∷ xs) = ap suc (length-map_each g (k + 1) xs)

pub length-after : (tree : Tree) (f : Firing) (e : Effect) (line : Line) → length (line_after tree f e line) ≡ length line
length-after tree f e line = length-map_each (cell_after tree f e) 0 line
