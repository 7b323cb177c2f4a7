-- Which firings an object's locks allow.
use Rattle.std.proofs.Common.{◌≡◌, refl, ap, sym, ◌∙◌, subst, ℕ, ◌+◌, ◌≤◌, Bool, true, false, List, [], ◌∷◌, length, arith, Option, Some, None, inl, inr}
use Rattle.std.specs.Prelude.{◌==◌, slice_get, is_some}
use Rattle.std.specs.Option.{option_map_or}
use Rattle.hem_base.specs.declared.ids.ObjectId.{ObjectId}
use Rattle.hem_base.specs.declared.ids.Message.{Message}
use Rattle.hem_base.specs.declared.ids.Firing.{Firing}
use Rattle.hem_base.specs.declared.ids.Kind.{Kind}
use Rattle.hem_template.specs.declared.template_name.TemplateName.{TemplateName}
use Rattle.hem_template.specs.declared.template_name.TemplateName.TheVariants.{ImmSelf, ImmDown, ImmUp, RqUp, RqUpSelf, RqUpDown, RqDownSelf, RqDownDown, RsDown, RsDownSelf, RsDownRqDown, RsUpDown, RsUpUp, RsUpSelf}
use Rattle.hem_object.specs.declared.state.By.{By}
use Rattle.hem_object.specs.declared.state.By.TheVariants.{Processor, Kid, Parent, Own}
use Rattle.hem_object.specs.declared.state.Lock.{Lock}
use Rattle.hem_syntax.specs.Protocol.{Protocol}
use Rattle.hem_object.specs.Local.{Local}
use Rattle.hem_template.specs.Template.{row_of}
use Rattle.hem_fire.specs.declared.outs.Outs.{Outs}
use Rattle.hem_fire.specs.Heads.{Heads}
use Rattle.hem_fire.specs.View.{asker}
use Rattle.hem_tree.specs.Tree.{Tree, parent_of, place_among}
use Rattle.hem_system.specs.declared.lane.Lane.TheVariants.{UpRequests, Down}
use Rattle.hem_system.specs.State.{Cell, Line, Effect, heads_of, place_of_me}
use Rattle.hem_system.proofs.Takers.{parent_is}
use Rattle.hem_rows.specs.Acts.{is_down_response, takes_me, Acts}
use Rattle.hem_locks.specs.Acted.{IsActed}
use Rattle.hem_locks.specs.Edges.{one_if, count, for_parent, held, EdgesHold}
use Rattle.hem_locks.specs.Allowed.{FreesFor, ServesParent}
use Rattle.hem_locks.specs.Clean.{IsCleanAt, AreInLine, AreCleanAt}
use Rattle.hem_rows.proofs.Choices.{if_mapped}
use Rattle.hem_locks.proofs.Counts.{count-cons}
use Rattle.hem_locks.proofs.LockNumbers.{needed-parent}
use Rattle.hem_locks.proofs.Lines.{head_of, local_of, me_there}
use Rattle.hem_system.proofs.Changed.{is_same}
use Rattle.hem_locks.proofs.Places.{named_head}
use Rattle.hem_locks.proofs.Clean.{clean_by, all_clean}

-- a held downlock allows only the firing that frees it
pub record Freed (lock : Lock) (t : TemplateName) (after : Local) : Type 0 where
  pub frees : FreesFor lock.by t
  pub free : after.down ≡ None

frees_requesters : (lock : Lock) (by : By) (asked : Option By) → lock.by ≡ by → asker (Some lock) ≡ asked → is_some asked ≡ true → FreesFor by RsUpDown
frees_requesters lock Processor asked by is some = refl
frees_requesters lock (Kid c) asked by is some = refl
frees_requesters lock Parent asked by is some = absurd (let none : None ≡ asked = rw by at is in let gone : is_some asked ≡ false = sym (ap is_some none) in cc)
frees_requesters lock Own asked by is some = absurd (let none : None ≡ asked = rw by at is in let gone : is_some asked ≡ false = sym (ap is_some none) in cc)

pub down_freed : (p : Protocol) (kind : Kind) (t : TemplateName) (me : Option ℕ) (local : Local) (heads : Heads) (after : Local) (outs : Outs) (lock : Lock) → local.down ≡ Some lock → Acts p kind (row_of t) me local heads after outs → Freed lock t after
down_freed p kind ImmSelf me local heads after outs lock is acts = absurd (let free : local.down ≡ None = acts.down_before in cc)
down_freed p kind ImmDown me local heads after outs lock is acts = absurd (let free : local.down ≡ None = acts.down_before in cc)
down_freed p kind ImmUp me local heads after outs lock is acts = absurd (let free : local.down ≡ None = acts.down_before in cc)
down_freed p kind RqUp me local heads after outs lock is acts = absurd (let free : local.down ≡ None = acts.down_before in cc)
down_freed p kind RqUpSelf me local heads after outs lock is acts = absurd (let free : local.down ≡ None = acts.down_before in cc)
down_freed p kind RqUpDown me local heads after outs lock is acts = absurd (let free : local.down ≡ None = acts.down_before in cc)
down_freed p kind RqDownSelf me local heads after outs lock is acts = absurd (let free : local.down ≡ None = acts.down_before in cc)
down_freed p kind RqDownDown me local heads after outs lock is acts = absurd (let free : local.down ≡ None = acts.down_before in cc)
down_freed p kind RsDown me local heads after outs lock is acts = absurd (let free : local.down ≡ None = acts.down_before in cc)
down_freed p kind RsDownSelf me local heads after outs lock is acts = absurd (let free : local.down ≡ None = acts.down_before in cc)
down_freed p kind RsDownRqDown me local heads after outs lock is acts = absurd (let free : local.down ≡ None = acts.down_before in cc)
down_freed p kind RsUpDown me local heads after outs lock is acts =
    let before = acts.down_before in
    let same : asker (Some lock) ≡ Some before.0.by = sym (ap asker is) ∙ before.2 in
    record { frees = frees_requesters lock lock.by (Some before.0.by) refl same refl; free = acts.down_after }
down_freed p kind RsUpUp me local heads after outs lock is acts =
    let before = acts.down_before in
    let both : Some lock ≡ Some before.0 = sym is ∙ before.1 in
    let same : lock ≡ before.0 = cc in
    record { frees = subst (λ by. FreesFor by RsUpUp) (sym (ap (λ (l : Lock). l.by) same ∙ before.2)) refl; free = acts.down_after }
down_freed p kind RsUpSelf me local heads after outs lock is acts =
    let before = acts.down_before in
    let both : Some lock ≡ Some before.0 = sym is ∙ before.1 in
    let same : lock ≡ before.0 = cc in
    record { frees = subst (λ by. FreesFor by RsUpSelf) (sym (ap (λ (l : Lock). l.by) same ∙ before.2)) refl; free = acts.down_after }

-- a request of a child or processor is taken only while both locks are free
pub record BothFree (local : Local) : Type 0 where
  pub up : local.up ≡ None
  pub down : local.down ≡ None

pub free_at_request : (p : Protocol) (kind : Kind) (t : TemplateName) (me : Option ℕ) (local : Local) (heads : Heads) (after : Local) (outs : Outs) → takes_me (row_of t).taking ≡ true → Acts p kind (row_of t) me local heads after outs → BothFree local
free_at_request p kind ImmDown me local heads after outs takes acts = record { up = acts.up_before; down = acts.down_before }
free_at_request p kind RqUp me local heads after outs takes acts = record { up = acts.up_before; down = acts.down_before }
free_at_request p kind RqUpDown me local heads after outs takes acts = record { up = acts.up_before; down = acts.down_before }
free_at_request p kind ImmSelf me local heads after outs takes acts = cc
free_at_request p kind ImmUp me local heads after outs takes acts = cc
free_at_request p kind RqUpSelf me local heads after outs takes acts = cc
free_at_request p kind RqDownSelf me local heads after outs takes acts = cc
free_at_request p kind RqDownDown me local heads after outs takes acts = cc
free_at_request p kind RsDown me local heads after outs takes acts = cc
free_at_request p kind RsDownSelf me local heads after outs takes acts = cc
free_at_request p kind RsDownRqDown me local heads after outs takes acts = cc
free_at_request p kind RsUpDown me local heads after outs takes acts = cc
free_at_request p kind RsUpUp me local heads after outs takes acts = cc
free_at_request p kind RsUpSelf me local heads after outs takes acts = cc

-- an object that waits for its parent's response, which isn't there yet, only serves its parent
no_response : (p : Protocol) (heads : Heads) → ((m : Message) → heads.parent ≡ Some m → is_down_response p m ≡ false) → (m : Message) × (heads.parent ≡ Some m) × (is_down_response p m ≡ true) → ⊥
no_response p heads none it = let not = none it.0 it.1 in let yes' = it.2 in cc

not_both_locks : (local : Local) (lock : Lock) → local.up ≡ Some lock → held local.up + held local.down ≤ 1 + for_parent local.down → held local.down ≡ 1 → for_parent local.down ≡ 0 → ⊥
not_both_locks local lock is single down parent = let up : held local.up ≡ 1 = ap held is in absurd (omega arith)

pub serves_parent : (p : Protocol) (kind : Kind) (t : TemplateName) (me : Option ℕ) (local : Local) (heads : Heads) (after : Local) (outs : Outs) (lock : Lock) → local.up ≡ Some lock → held local.up + held local.down ≤ 1 + for_parent local.down → ((m : Message) → heads.parent ≡ Some m → is_down_response p m ≡ false) → Acts p kind (row_of t) me local heads after outs → ServesParent t
serves_parent p kind ImmUp me local heads after outs lock is single none acts = inl refl
serves_parent p kind RqDownDown me local heads after outs lock is single none acts = inr (inl refl)
serves_parent p kind RsUpUp me local heads after outs lock is single none acts = inr (inr refl)
serves_parent p kind ImmSelf me local heads after outs lock is single none acts = absurd (let free : local.up ≡ None = acts.up_before in cc)
serves_parent p kind ImmDown me local heads after outs lock is single none acts = absurd (let free : local.up ≡ None = acts.up_before in cc)
serves_parent p kind RqUp me local heads after outs lock is single none acts = absurd (let free : local.up ≡ None = acts.up_before in cc)
serves_parent p kind RqUpSelf me local heads after outs lock is single none acts = absurd (let free : local.up ≡ None = acts.up_before in cc)
serves_parent p kind RqUpDown me local heads after outs lock is single none acts = absurd (let free : local.up ≡ None = acts.up_before in cc)
serves_parent p kind RqDownSelf me local heads after outs lock is single none acts = absurd (let free : local.up ≡ None = acts.up_before in cc)
serves_parent p kind RsDown me local heads after outs lock is single none acts = absurd (no_response p heads none acts.there)
serves_parent p kind RsDownSelf me local heads after outs lock is single none acts = absurd (no_response p heads none acts.there)
serves_parent p kind RsDownRqDown me local heads after outs lock is single none acts = absurd (no_response p heads none acts.there)
serves_parent p kind RsUpDown me local heads after outs lock is single none acts =
    absurd (not_both_locks local lock is single (ap held acts.down_before.1) (needed-parent (row_of RsUpDown).down local.down acts.down_before))
serves_parent p kind RsUpSelf me local heads after outs lock is single none acts =
    absurd (not_both_locks local lock is single (ap held acts.down_before.1) (needed-parent (row_of RsUpSelf).down local.down acts.down_before))

-- of a list without responses the head is none
head_no_response : (p : Protocol) (ms : List Message) (m : Message) → count (is_down_response p) ms ≡ 0 → slice_get ms 0 ≡ Some m → is_down_response p m ≡ false
head_no_response p [] m none at = cc
head_no_response p (x ∷ ms) m none at = let same : x ≡ m = cc in ap (is_down_response p) (sym same) ∙ by_test (is_down_response p x) (omega (arith, count-cons (is_down_response p) x ms))
  where
    by_test : (b : Bool) → one_if b ≡ 0 → b ≡ false
    by_test false none = refl
    by_test true none = absurd (omega arith)

pub waiting_serves : (p : Protocol) (tree : Tree) (line : Line) (f : Firing) (e : Effect) (high : ℕ) (upper lower : Cell) (lock : Lock) → EdgesHold p tree line → (it : IsActed p tree line f e) → parent_of tree f.object.0 ≡ Some high → slice_get line high ≡ Some upper → slice_get line f.object.0 ≡ Some lower → lower.local.up ≡ Some lock → count (is_down_response p) lower.down ≡ 0 → ServesParent it.template
waiting_serves p tree line f e high upper lower lock holds it parent at_high at is none =
    let o = f.object.0 in
    let edge = holds.edge o high upper lower parent at_high at in
    let local = local_of line o lower it.local at it.there in
    serves_parent p it.kind it.template (place_of_me tree o f.me) it.local (heads_of tree line o f.me) e.after e.outs lock
    (ap (λ (l : Local). l.up) local ∙ is)
    (subst (λ (l : Local). held l.up + held l.down ≤ 1 + for_parent l.down) (sym local) edge.single)
    (λ m there. head_no_response p lower.down m none (sym (head_of line o lower Down at) ∙ there))
    it.acts

-- where a child's request is taken, the child and those for which it works are clean
pub request_clean : (p : Protocol) (tree : Tree) (line : Line) (f : Firing) (e : Effect) (child : ObjectId) → EdgesHold p tree line → IsActed p tree line f e → e.outs.taken_request ≡ true → f.me ≡ Some child → IsCleanAt line child.0
request_clean p tree line f e child holds it taken is =
    λ cell at.
    let o = f.object.0 in
    let upper = if_mapped (λ (c : Cell). c.local) (slice_get line o) it.local it.there in
    let parent : parent_of tree child.0 ≡ Some o = parent_is tree child.0 o (rw is at it.own_child) in
    let takes = sym it.acts.taken_request ∙ taken in
    let free = free_at_request p it.kind it.template (place_of_me tree o f.me) it.local (heads_of tree line o f.me) e.after e.outs takes it.acts in
    let there = me_there p (row_of it.template).taking it.local (heads_of tree line o f.me) takes it.acts.there in
    let named : option_map_or (λ (c : ObjectId). c.0 == child.0) f.me false ≡ true = rw is (is_same child.0) in
    let head : slice_get cell.up_requests 0 ≡ Some there.0 = sym (head_of line child.0 cell UpRequests at) ∙ sym (named_head line o child.0 f.me named) ∙ there.1 in
    clean_by p (place_among tree o child.0) upper.0 cell (holds.edge child.0 o upper.0 cell parent upper.1 at) (ap (λ (l : Local). l.down) upper.2 ∙ free.down) (omega (arith, some cell.up_requests there.0 head))
  where
    some : (ms : List Message) (m : Message) → slice_get ms 0 ≡ Some m → 1 ≤ length ms
    some [] m at = cc
    some (x ∷ ms) m at = omega arith

pub requests_clean : (p : Protocol) (tree : Tree) (line : Line) (f : Firing) (e : Effect) (child : ObjectId) (lows : List ℕ) → EdgesHold p tree line → IsActed p tree line f e → e.outs.taken_request ≡ true → f.me ≡ Some child → AreInLine tree line child.0 lows → AreCleanAt line (child.0 ∷ lows)
requests_clean p tree line f e child lows holds it taken is works = all_clean p tree line child.0 lows holds (request_clean p tree line f e child holds it taken is) works
