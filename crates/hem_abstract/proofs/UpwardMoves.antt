-- An upward request that waits does the same at a later local state in which its guard holds and its value is the same.
use Rattle.std.proofs.Common.{◌≡◌, refl, ap, sym, ◌∙◌, subst, ℕ, true, false, List, [], length, Option, Some, None}
use Rattle.std.specs.Prelude.{option_map, is_some, is_none}
use Rattle.std.specs.Option.{option_map_or}
use Rattle.hem_base.specs.declared.ids.Message.{Message}
use Rattle.hem_base.specs.declared.ids.MsgId.{MsgId}
use Rattle.hem_base.specs.declared.ids.RuleId.{RuleId}
use Rattle.hem_base.specs.declared.ids.Kind.{Kind}
use Rattle.hem_syntax.specs.declared.rule.Rule.{Rule}
use Rattle.hem_syntax.specs.declared.rule.Take.{Take}
use Rattle.hem_syntax.specs.declared.rule.Take.TheVariants as take
use Rattle.hem_syntax.specs.declared.rule.Hold.TheVariants as hold
use Rattle.hem_syntax.specs.declared.rule.Side.{Side}
use Rattle.hem_syntax.specs.declared.rule.Side.TheVariants as side
use Rattle.hem_syntax.specs.declared.rule.Origin.{Origin}
use Rattle.hem_syntax.specs.declared.rule.Atom.{Atom}
use Rattle.hem_syntax.specs.declared.rule.Value.{Value}
use Rattle.hem_syntax.specs.declared.rule.SendTo.TheVariants as send
use Rattle.hem_object.specs.declared.state.Lock.{Lock}
use Rattle.hem_object.specs.declared.state.View.{View}
use Rattle.hem_object.specs.declared.state.By.{By}
use Rattle.hem_base.specs.declared.ids.KidSet.{KidSet}
use Rattle.hem_fire.specs.declared.outs.Outs.{Outs}
use Rattle.hem_syntax.specs.Protocol.{Protocol}
use Rattle.hem_object.specs.Local.{Local, nobody}
use Rattle.hem_object.specs.Guard.{holds, value_of}
use Rattle.hem_fire.specs.OneFire.{Heads, me_fits, local_after, outs_of}
use Rattle.hem_fire.specs.View.{view_of}
use Rattle.hem_fire.specs.Heads.{takes_there}
use Rattle.hem_fire.specs.Locks.{lock_names, lock_by, lock_taken, awaited_by, request_in_hand}
use Rattle.hem_object.specs.Changes.{locked}
use Rattle.hem_rows.proofs.Choices.{both}
use Rattle.hem_rows.proofs.Possible.{can_parts}
use Rattle.hem_abstract.proofs.UplockUnseen.{with_up}
use Rattle.hem_abstract.proofs.OneRule.{can-whole, Does, send-parent-same}

-- an upward request takes a child's request, or nothing
abbrev pub TakesAbove : Take → Type 0
TakesAbove (take.Me id) = Unit {0}
TakesAbove take.Nothing = Unit {0}
TakesAbove (take.Parent id) = ⊥
TakesAbove (take.Kids id) = ⊥

-- an upward request that waits, with all that its template fixes
abbrev pub rq_up : RuleId → Take → List Atom → Origin → MsgId → Value → Rule
rq_up name t guard by request v =
    record { name = name; take = t; need = record { up = hold.Free; down = hold.Free }; guard = guard; sets = []; free = None; lock = Some (side.Up, by); send = send.Parent request v }

-- a lock whose names exist is taken
lock-there : (by : Origin) (view : View) (request : Option Message) (targets : KidSet) → lock_names (Some (side.Up, by)) view request ≡ true → (lock : Lock) × (lock_taken (Some (side.Up, by)) view request targets ≡ Some (side.Up, lock))
lock-there by view None targets names = let bad : false ≡ true = (both (is_some (lock_by by view)) false names).1 in cc
lock-there by view (Some m) targets names = holder (lock_by by view) (both (is_some (lock_by by view)) true names).0
  where
    holder : (b : Option By) → is_some b ≡ true → (lock : Lock) × (option_map {U = Side × Lock} (λ by. (side.Up, record { by = by; request = m; awaited = awaited_by side.Up targets })) b ≡ Some (side.Up, lock))
    holder None is = cc
    holder (Some by) is = (record { by = by; request = m; awaited = awaited_by side.Up targets }, refl)

-- the request moves: to a state with as many children and free locks, where its guard holds, and its value and request are the same
moves : (p : Protocol) (kind : Kind) (name : RuleId) (t : Take) (guard : List Atom) (by : Origin) (request : MsgId) (v : Value) (me : Option ℕ) (local local' : Local) (heads : Heads) (next : Local) (outs : Outs) (w : View) → view_of t me local heads ≡ w → view_of t me local' heads ≡ w → takes_there t local' heads ≡ takes_there t local heads → request_in_hand p t (send.Parent request v) local' w heads ≡ request_in_hand p t (send.Parent request v) local w heads → Does p kind (rq_up name t guard by request v) me local heads next outs → local'.up ≡ None → local'.down ≡ None → length local'.dir ≡ length local.dir → holds guard local' w ≡ true → value_of v local' w ≡ value_of v local w → (lock : Lock) × (next ≡ with_up (Some lock) local) × Does p kind (rq_up name t guard by request v) me local' heads (with_up (Some lock) local') outs
moves p kind name t guard by request v me local local' heads next outs w view view' there hand does up down size guarded value =
    let rule = rq_up name t guard by request v in
    let parts = can_parts p kind rule me local heads does.can in
    let locks : lock_names (Some (side.Up, by)) w (request_in_hand p t (send.Parent request v) local w heads) ≡ true = subst (λ x. lock_names (Some (side.Up, by)) x (request_in_hand p t (send.Parent request v) local x heads) ≡ true) view parts.lock in
    let taken = lock-there by w (request_in_hand p t (send.Parent request v) local w heads) nobody locks in
    let here : local_after p kind rule me local heads ≡ with_up (Some taken.0) local = ap (λ x. option_map_or (λ l. locked l.0 l.1 local) (lock_taken (Some (side.Up, by)) x (request_in_hand p t (send.Parent request v) local x heads) nobody) local) view ∙ ap (λ x. option_map_or (λ l. locked l.0 l.1 local) x local) taken.1 in
    let moved : local_after p kind rule me local' heads ≡ with_up (Some taken.0) local' = ap (λ x. option_map_or (λ l. locked l.0 l.1 local') (lock_taken (Some (side.Up, by)) x (request_in_hand p t (send.Parent request v) local' x heads) nobody) local') view' ∙ ap (λ r. option_map_or (λ l. locked l.0 l.1 local') (lock_taken (Some (side.Up, by)) w r nobody) local') hand ∙ ap (λ x. option_map_or (λ l. locked l.0 l.1 local') x local') taken.1 in
    let value' : value_of v local (view_of t me local heads) ≡ value_of v local' (view_of t me local' heads) = ap (value_of v local) view ∙ sym value ∙ ap (value_of v local') (sym view') in (
      taken.0,
      sym does.leaves ∙ here,
      record {
        can = can-whole p kind rule me local' heads (record {
          fits = ap (me_fits kind t me) size ∙ parts.fits;
          takes = there ∙ parts.takes;
          up = ap is_none up;
          down = ap is_none down;
          sets = refl;
          lock = ap (λ x. lock_names (Some (side.Up, by)) x (request_in_hand p t (send.Parent request v) local' x heads)) view' ∙ ap (lock_names (Some (side.Up, by)) w) hand ∙ locks;
          guard = ap (holds guard local') view' ∙ guarded;
          send = send-parent-same kind request v local local' (view_of t me local heads) (view_of t me local' heads) value' parts.send;
        });
        leaves = moved;
        gives = outs_same t value' (ap (λ x. x.awaited) (view' ∙ sym view)) ∙ does.gives;
      },
    )
  where
    outs_same : (t : Take) → value_of v local (view_of t me local heads) ≡ value_of v local' (view_of t me local' heads) → (view_of t me local' heads).awaited ≡ (view_of t me local heads).awaited → outs_of p kind (rq_up name t guard by request v) me local' heads ≡ outs_of p kind (rq_up name t guard by request v) me local heads
    outs_same (take.Me id) value awaited = rw value refl
    outs_same take.Nothing value awaited = rw value refl
    outs_same (take.Parent id) value awaited = rw value refl
    outs_same (take.Kids id) value awaited = rw (value, awaited) refl

-- a request from a child
pub rq_up-moves : (p : Protocol) (kind : Kind) (name : RuleId) (id : MsgId) (guard : List Atom) (by : Origin) (request : MsgId) (v : Value) (me : Option ℕ) (local local' : Local) (heads : Heads) (next : Local) (outs : Outs) → Does p kind (rq_up name (take.Me id) guard by request v) me local heads next outs → local'.up ≡ None → local'.down ≡ None → length local'.dir ≡ length local.dir → holds guard local' (view_of (take.Me id) me local heads) ≡ true → value_of v local' (view_of (take.Me id) me local heads) ≡ value_of v local (view_of (take.Me id) me local heads) → (lock : Lock) × (next ≡ with_up (Some lock) local) × Does p kind (rq_up name (take.Me id) guard by request v) me local' heads (with_up (Some lock) local') outs
rq_up-moves p kind name id guard by request v me local local' heads next outs does up down size guarded value =
    moves p kind name (take.Me id) guard by request v me local local' heads next outs (view_of (take.Me id) me local heads) refl refl refl refl does up down size guarded value

-- a request of its own
pub rq_up_self-moves : (p : Protocol) (kind : Kind) (name : RuleId) (guard : List Atom) (by : Origin) (request : MsgId) (v : Value) (me : Option ℕ) (local local' : Local) (heads : Heads) (next : Local) (outs : Outs) → Does p kind (rq_up name take.Nothing guard by request v) me local heads next outs → local'.up ≡ None → local'.down ≡ None → length local'.dir ≡ length local.dir → holds guard local' (view_of take.Nothing me local heads) ≡ true → value_of v local' (view_of take.Nothing me local heads) ≡ value_of v local (view_of take.Nothing me local heads) → (lock : Lock) × (next ≡ with_up (Some lock) local) × Does p kind (rq_up name take.Nothing guard by request v) me local' heads (with_up (Some lock) local') outs
rq_up_self-moves p kind name guard by request v me local local' heads next outs does up down size guarded value =
    moves p kind name take.Nothing guard by request v me local local' heads next outs (view_of take.Nothing me local heads) refl refl refl (ap (option_map (λ x. record { id = request; value = x })) value) does up down size guarded value
