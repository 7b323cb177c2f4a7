-- The actions of a rule that can fire lead to registers that show what the firing leaves.
use Rattle.std.proofs.Common.{◌≡◌, refl, ap, sym, ◌∙◌, ℕ, ◌<◌, Bool, true, false, cond, [], length, Option, Some, None}
use Rattle.std.specs.Prelude.{◌==◌, IsTrue, Ok, slice_get, is_some, unwrap_or}
use Rattle.std.specs.List.{list_all}
use Rattle.std.specs.Option.{option_map_or}
use Rattle.std.proofs.lemmas.List.{length-set}
use Rattle.hem_base.specs.Sets.{has_bit}
use Rattle.hem_base.specs.declared.ids.Kind.{Kind}
use Rattle.hem_syntax.specs.declared.rule.Rule.{Rule}
use Rattle.hem_syntax.specs.declared.rule.Take.{Take}
use Rattle.hem_syntax.specs.declared.rule.Take.TheVariants as take
use Rattle.hem_syntax.specs.declared.rule.Value.{Value}
use Rattle.hem_syntax.specs.declared.rule.Value.TheVariants as value
use Rattle.hem_syntax.specs.declared.rule.Assign.{Assign}
use Rattle.hem_syntax.specs.declared.rule.Assign.TheVariants as assign
use Rattle.hem_base.specs.declared.ids.MsgId.{MsgId}
use Rattle.hem_base.specs.declared.ids.StatusSet.{StatusSet}
use Rattle.hem_syntax.specs.declared.rule.Hold.TheVariants as hold
use Rattle.hem_syntax.specs.declared.rule.SendTo.TheVariants as send
use Rattle.hem_template.specs.declared.template_name.TemplateName.TheVariants.{RqUp, RqUpSelf, RqUpDown, RqDownSelf, RqDownDown, RsDownRqDown}
use Rattle.hem_syntax.specs.declared.rule.Side.{Side}
use Rattle.hem_syntax.specs.declared.rule.Side.TheVariants.{Up, Down}
use Rattle.hem_object.specs.declared.state.Lock.{Lock}
use Rattle.hem_syntax.specs.declared.rule.Origin.{Origin}
use Rattle.hem_template.specs.declared.template_name.TemplateName.{TemplateName}
use Rattle.hem_syntax.specs.Protocol.{Protocol, part}
use Rattle.hem_object.specs.Local.{Local, IsWellFormed, nobody}
use Rattle.hem_object.specs.Guard.{value_of, is_requester}
use Rattle.hem_syntax.specs.Lawful.{is_rule, counts_of}
use Rattle.hem_template.specs.Template.{template_of, row_of, has_rs, atom_fits, set_fits, value_fits, value_sent, values_of, take_class_fits, send_class_fits}
use Rattle.hem_template.specs.Rows.{set_value_fits}
use Rattle.hem_emit.proofs.Values.{values_apart}
use Rattle.hem_object.specs.Changes.{assign_own, assigned, freed, locked}
use Rattle.hem_object.specs.Targets.{targets_of}
use Rattle.hem_fire.specs.Heads.{Heads, awaited_of}
use Rattle.hem_fire.specs.View.{view_of}
use Rattle.hem_fire.specs.Locks.{need_holds, lock_taken, awaited_by, request_in_hand}
use Rattle.hem_fire.specs.OneFire.{can_fire, local_after}
use Rattle.hem_module.specs.Module.{put}
use Rattle.hem_module.specs.Step.{Held, number_after, after_actions}
use Rattle.hem_rows.specs.Rows.{IsOfRow, IsTaking}
use Rattle.hem_rows.proofs.Rows.{of_row}
use Rattle.hem_rows.proofs.Choices.{both, is_nothing}
use Rattle.hem_rows.proofs.Bits.{no_bit}
use Rattle.hem_rows.proofs.Possible.{CanFire, can_parts}
use Rattle.hem_emit.specs.Names.{kept, Reg, Queue, lock, field, val, entry, awaits, same_reg, names}
use Rattle.hem_emit.specs.Place.{Place, asker_of}
use Rattle.hem_emit.specs.Actions.{with_value, value_in_hand, await_actions, lock_actions, free_actions, actions_of}
use Rattle.hem_emit.specs.Image.{status_number}
use Rattle.hem_emit.specs.Shows.{AreKids, Shows, ShowsRegisters}
use Rattle.hem_emit.proofs.Tests.{same_number, at_below, below_at}
use Rattle.hem_emit.proofs.Entries.{Sees}
use Rattle.hem_emit.proofs.Rows.{takes_of_me, takes_of_parent, takes_of_nothing}
use Rattle.hem_emit.proofs.Faced.{Faced, faced, me_alone, parent_alone, nothing_alone}
use Rattle.hem_emit.proofs.Named.{and_both, value_is_there}
use Rattle.hem_emit.proofs.Guards.{is_asker}
use Rattle.hem_emit.proofs.Sends.{levels, others_ask, sending_others}
use Rattle.hem_emit.proofs.Writes.{number_after-append, all_leave, value_leaves}
use Rattle.hem_emit.proofs.Awaited.{free_awaited, awaits_written}
use Rattle.hem_emit.proofs.Whole.{declared, sees_of}
use Rattle.hem_emit.proofs.After.{own_after, in_turn-keeps, fields_own}
use Rattle.hem_emit.proofs.Owned.{field_after, value_after}
use Rattle.hem_emit.proofs.Amounts.{plain_put}
use Rattle.hem_emit.proofs.Responses.{responses_put}
use Rattle.hem_emit.proofs.Locks.{InHand, AllInHand, sets_keep, lock_alone, lock_after}
use Rattle.hem_emit.proofs.Hands.{hand_of}
use Rattle.hem_emit.proofs.Dirs.{entry_after}

bit_is : (n : ℕ) (b : Bool) → n ≡ cond b 1 0 → (n == 1) ≡ b
bit_is n true is = rw is refl
bit_is n false is = rw is refl

-- who is awaited, where a rule takes from the children
awaited_here : (p : Protocol) (t : TemplateName) (tk : Take) (me : Option ℕ) (local : Local) (heads : Heads) (k : ℕ) → IsTaking p (row_of t).taking tk → has_rs (row_of t).taking ≡ true → has_bit (awaited_of local).0 k ≡ has_bit (view_of tk me local heads).awaited.0 k
awaited_here p t (take.Kids id) me local heads k is may = refl
awaited_here p t (take.Me id) me local heads k is may = let takes = me_alone (row_of t).taking (takes_of_me p (row_of t).taking id is) in let none = takes.1 in cc
awaited_here p t (take.Parent id) me local heads k is may = let none = parent_alone (row_of t).taking (takes_of_parent p (row_of t).taking id is) in cc
awaited_here p t take.Nothing me local heads k is may = let takes = nothing_alone (row_of t).taking (takes_of_nothing p (row_of t).taking is) in let none = takes.1 in cc

-- a register that gets a value gets the number that the value stands for
value_put : {at : Place} {me : Option ℕ} {local : Local} {heads : Heads} {s : Held Reg Queue} → Shows at me local heads s → (tk : Take) (v : Value) (old : ℕ) → is_some (value_of v local (view_of tk me local heads)) ≡ true → number_after s (same_reg (val at.object)) (with_value at me tk v [] (put (val at.object))) old ≡ unwrap_or (value_of v local (view_of tk me local heads)) 0
value_put {at = at} shows (take.Kids id) value.Rs old there = responses_put shows (same_reg (val at.object)) (val at.object) (same_number at.object at.object refl) id old there
value_put shows (take.Me id) value.Rs old there = cc
value_put shows (take.Parent id) value.Rs old there = cc
value_put shows take.Nothing value.Rs old there = cc
value_put {at = at} shows tk value.Val old there = plain_put shows (same_reg (val at.object)) (val at.object) (same_number at.object at.object refl) tk value.Val old refl
value_put {at = at} shows tk value.Msg old there = plain_put shows (same_reg (val at.object)) (val at.object) (same_number at.object at.object refl) tk value.Msg old refl
value_put {at = at} shows tk value.Kept old there = plain_put shows (same_reg (val at.object)) (val at.object) (same_number at.object at.object refl) tk value.Kept old refl
value_put {at = at} shows tk value.Zero old there = plain_put shows (same_reg (val at.object)) (val at.object) (same_number at.object at.object refl) tk value.Zero old refl

-- sets keep the number of fields
field_count_kept : (p : Protocol) (kind : Kind) (rule : Rule) (me : Option ℕ) (local : Local) (heads : Heads) → length (local_after p kind rule me local heads).fields ≡ length local.fields
field_count_kept p kind rule me local heads =
    ap length (own_after (λ local. local.fields) fields_own p kind rule me local heads)
    ∙ in_turn-keeps (λ local. length local.fields) (assign_own local (view_of rule.take me local heads)) keeps rule.sets local
  where
    keeps : (a : Assign) (x : Local) → length (assign_own local (view_of rule.take me local heads) a x).fields ≡ length x.fields
    keeps (assign.Field i status) x = length-set x.fields i status
    keeps (assign.Val v) x = refl
    keeps (assign.Me status) x = refl
    keeps (assign.Targets status) x = refl

-- a rule that locks downwards wants the downlock free
locks_free : (t : TemplateName) (l : Side × Origin) → (row_of t).locks ≡ Some l → l.0 ≡ Down → (row_of t).down ≡ hold.Free
locks_free RqUpDown l is down = refl
locks_free RqDownSelf l is down = refl
locks_free RqDownDown l is down = refl
locks_free RsDownRqDown l is down = refl
locks_free RqUp l is down = let side : Up ≡ l.0 = ap (λ (x : Option (Side × Origin)). option_map_or (λ l. l.0) x Up) is in let bad = side ∙ down in cc
locks_free RqUpSelf l is down = let side : Up ≡ l.0 = ap (λ (x : Option (Side × Origin)). option_map_or (λ l. l.0) x Up) is in let bad = side ∙ down in cc
locks_free _ l is down = cc

free_left : (free : Option Side) (local : Local) → local.down ≡ None → (freed free local).down ≡ None
free_left None local is = is
free_left (Some Up) local is = is
free_left (Some Down) local is = refl

-- who is awaited after a lock is taken
lock_awaited : {at : Place} {me : Option ℕ} {local : Local} {heads : Heads} {s : Held Reg Queue} → Sees at me local heads s → (p : Protocol) (rule : Rule) (k c : ℕ) → slice_get at.kids k ≡ Some c → ((set : StatusSet) (id : MsgId) (v : Value) → rule.send ≡ send.Others set id v → is_asker at s (asker_of rule.take me) k c ≡ is_requester (view_of rule.take me local heads) k) → (lock_is : Option (Side × Origin)) → ((l : Side × Origin) → lock_is ≡ Some l → InHand p at me s rule.take rule.send local heads l.1) → (left : Local) → ((l : Side × Origin) → lock_is ≡ Some l → l.0 ≡ Down → left.down ≡ None) → number_after s (same_reg (awaits c)) (lock_actions p at me rule lock_is) (cond (has_bit (awaited_of left).0 k) 1 0) ≡ cond (has_bit (awaited_of (option_map_or (λ l. locked l.0 l.1 left) (lock_taken lock_is (view_of rule.take me local heads) (request_in_hand p rule.take rule.send local (view_of rule.take me local heads) heads) (targets_of rule.send local (view_of rule.take me local heads))) left)).0 k) 1 0
lock_awaited sees p rule k c kid asks None in_hand left free = refl
lock_awaited {at = at} {me = me} {local = local} {heads = heads} {s = s} sees p rule k c kid asks (Some l) in_hand left free =
    by_side l.0 (λ is. free l refl is)
    ∙ sym (ap (λ (taken : Option (Side × Lock)). cond (has_bit (awaited_of (option_map_or (λ l. locked l.0 l.1 left) taken left)).0 k) 1 0) (taken_is (in_hand l refl)))
  where
    taken_is : (hand : InHand p at me s rule.take rule.send local heads l.1) → lock_taken (Some l) (view_of rule.take me local heads) (request_in_hand p rule.take rule.send local (view_of rule.take me local heads) heads) (targets_of rule.send local (view_of rule.take me local heads)) ≡ Some (l.0, record { by = hand.by; request = hand.request; awaited = awaited_by l.0 (targets_of rule.send local (view_of rule.take me local heads)) })
    taken_is hand = rw (hand.keeps, hand.holder) refl

    value_part : (side : Side) (old : ℕ) → number_after s (same_reg (awaits c)) (with_value at me rule.take (value_in_hand p rule.take rule.send) [] (put (lock side kept at.object))) old ≡ old
    value_part side old = all_leave s (same_reg (awaits c)) (with_value at me rule.take (value_in_hand p rule.take rule.send) [] (put (lock side kept at.object))) old (value_leaves (same_reg (awaits c)) at me rule.take (value_in_hand p rule.take rule.send) [] (put (lock side kept at.object)) (λ a. refl))

    by_side : (side : Side) → (side ≡ Down → left.down ≡ None) → number_after s (same_reg (awaits c)) (lock_actions p at me rule (Some (side, l.1))) (cond (has_bit (awaited_of left).0 k) 1 0) ≡ cond (has_bit (awaited_of (locked side (record { by = (in_hand l refl).by; request = (in_hand l refl).request; awaited = awaited_by side (targets_of rule.send local (view_of rule.take me local heads)) }) left)).0 k) 1 0
    by_side Up none =
        number_after-append s (same_reg (awaits c)) (with_value at me rule.take (value_in_hand p rule.take rule.send) [] (put (lock Up kept at.object))) [] (cond (has_bit (awaited_of left).0 k) 1 0)
        ∙ value_part Up (cond (has_bit (awaited_of left).0 k) 1 0)
    by_side Down none =
        number_after-append s (same_reg (awaits c)) (with_value at me rule.take (value_in_hand p rule.take rule.send) [] (put (lock Down kept at.object))) (await_actions at (asker_of rule.take me) rule.send Down) (cond (has_bit (awaited_of left).0 k) 1 0)
        ∙ ap (number_after s (same_reg (awaits c)) (await_actions at (asker_of rule.take me) rule.send Down)) (value_part Down (cond (has_bit (awaited_of left).0 k) 1 0) ∙ ap (λ (d : Option Lock). cond (has_bit (option_map_or (λ lock. lock.awaited) d nobody).0 k) 1 0) (none refl) ∙ ap (λ b. cond b 1 0) (no_bit k))
        ∙ awaits_written sees k c kid (asker_of rule.take me) (view_of rule.take me local heads) rule.send 0 asks

-- the actions of a rule lead from who is awaited to who is awaited after the firing
await_after : (p : Protocol) (at : Place) (rule : Rule) (t : TemplateName) (me : Option ℕ) (local : Local) (heads : Heads) (s : Held Reg Queue) → Sees at me local heads s → IsOfRow p at.kind rule t → need_holds rule.need.down local.down ≡ true → AllInHand p at me s rule local heads → Faced at s (asker_of rule.take me) local (view_of rule.take me local heads) (row_of t) → (k c : ℕ) → slice_get at.kids k ≡ Some c → number_after s (same_reg (awaits c)) (actions_of p at me rule) (s.reg (awaits c)) ≡ cond (has_bit (awaited_of (local_after p at.kind rule me local heads)).0 k) 1 0
await_after p at rule t me local heads s sees one down in_hand face k c kid =
    let view = view_of rule.take me local heads in
    let set = assigned rule.sets view local in
    lock_alone s (same_reg (awaits c)) p at me rule (s.reg (awaits c)) (λ i o. refl) (λ o. refl) (λ c. refl)
    ∙ ap (number_after s (same_reg (awaits c)) (lock_actions p at me rule rule.lock)) (
    ap (number_after s (same_reg (awaits c)) (free_actions at rule.free)) (sees.shows.awaited k c kid ∙ sym (ap (λ (d : Option Lock). cond (has_bit (option_map_or (λ lock. lock.awaited) d nobody).0 k) 1 0) (sets_keep local Down view rule.sets)))
    ∙ free_awaited at sees.kids s k c rule.free set kid)
    ∙ lock_awaited sees p rule k c kid asks rule.lock in_hand (freed rule.free set) none_left
  where
    asks : (set : StatusSet) (id : MsgId) (v : Value) → rule.send ≡ send.Others set id v → is_asker at s (asker_of rule.take me) k c ≡ is_requester (view_of rule.take me local heads) k
    asks set id v is = face.guarded.names k c kid (and_both _ _ (others_ask t (sending_others p (row_of t).sending set id v (let sends = one.sending in rw is at sends))) ((levels at.kind rule one.level).others set id v is))

    none_left : (l : Side × Origin) → rule.lock ≡ Some l → l.0 ≡ Down → (freed rule.free (assigned rule.sets (view_of rule.take me local heads) local)).down ≡ None
    none_left l is side =
        let lock_is = one.lock in
        let need = one.down ∙ locks_free t l (sym lock_is ∙ is) side in
        let none : need_holds hold.Free local.down ≡ true = rw need at down in
        free_left rule.free (assigned rule.sets (view_of rule.take me local heads) local) (sets_keep local Down (view_of rule.take me local heads) rule.sets ∙ is_nothing local.down none)

pub registers_shown : (p : Protocol) (at : Place) (rule : Rule) (t : TemplateName) (me : Option ℕ) (local : Local) (heads : Heads) (s : Held Reg Queue) → template_of p at.kind rule ≡ Ok t → IsTrue (is_rule (counts_of p (part p at.kind)) rule) → at.statuses ≡ length p.statuses → AreKids at.kind at.kids → IsWellFormed p at.kind (length at.kids) local → Shows at me local heads s → can_fire p at.kind rule me local heads ≡ true → ShowsRegisters at (local_after p at.kind rule me local heads) (after_actions names s (actions_of p at me rule))
registers_shown p at rule t me local heads s has known statuses kids formed shows can =
    record {
      fields = λ i less. field_shown i less;
      value = value_after s p at rule me local heads (set_value_fits (row_of t)) (λ v old fit. value_put shows rule.take v old (value_is_there face v fit)) fit_values.0 shows.value;
      locks = lock_after shows p rule in_hand;
      awaited = λ k c kid. await_after p at rule t me local heads s sees one parts.down in_hand face k c kid;
      entries = λ k c kid. entry_after at kids s p rule (row_of t) me local heads k c kid (dir_less k c kid) (entry_shown k c kid) (λ may. bit_is _ _ (shows.awaited k c kid) ∙ awaited_here p t rule.take me local heads k one.taking may) (λ may. face.guarded.names k c kid may) fit_names.1;
    }
  where
    sees : Sees at me local heads s
    sees = sees_of p at me local heads s statuses kids formed shows

    one : IsOfRow p at.kind rule t
    one = of_row p at.kind rule t has

    parts : CanFire p at.kind rule me local heads
    parts = can_parts p at.kind rule me local heads can

    up : need_holds (row_of t).up local.up ≡ true
    up = let up_is = one.up in rw up_is at parts.up

    down : need_holds (row_of t).down local.down ≡ true
    down = let down_is = one.down in rw down_is at parts.down

    face : Faced at s (asker_of rule.take me) local (view_of rule.take me local heads) (row_of t)
    face = faced sees p t rule.take one.taking parts.fits parts.takes up down

    fit_names : (list_all (atom_fits p at.kind (row_of t)) rule.guard ≡ true) × (list_all (set_fits at.kind (row_of t)) rule.sets ≡ true)
    fit_names = both (list_all (atom_fits p at.kind (row_of t)) rule.guard) (list_all (set_fits at.kind (row_of t)) rule.sets) (both _ (list_all (value_fits (row_of t)) (values_of rule)) one.names).0

    fit_values : (list_all (set_value_fits (row_of t)) rule.sets ≡ true) × (option_map_or (value_fits (row_of t)) (value_sent rule.send) true ≡ true)
    fit_values = both (list_all (set_value_fits (row_of t)) rule.sets) (option_map_or (value_fits (row_of t)) (value_sent rule.send) true) (sym (values_apart (row_of t) rule) ∙ (both _ (list_all (value_fits (row_of t)) (values_of rule)) one.names).1)

    in_hand : AllInHand p at me s rule local heads
    in_hand l is =
        let lock_is = one.lock in
        let class = both (take_class_fits p at.kind rule.take) (send_class_fits p at.kind rule.send) one.class in
        hand_of at me local heads s p shows t rule.take rule.send l (sym lock_is ∙ is) one.taking one.sending class.0 parts.takes up (λ v fit. value_is_there face v fit) fit_values.1

    dir_less : (k c : ℕ) → slice_get at.kids k ≡ Some c → k < length local.dir
    dir_less k c kid = let less = below_at at.kids k c kid in let count = shows.dir_count in rw count less

    entry_shown : (k c : ℕ) → slice_get at.kids k ≡ Some c → s.reg (entry c) ≡ status_number (slice_get local.dir k)
    entry_shown k c kid = let there = at_below local.dir k (dir_less k c kid) in shows.entries k c there.0 kid there.1 ∙ sym (ap status_number there.1)

    field_shown : (i : ℕ) → i < length (local_after p at.kind rule me local heads).fields → (after_actions names s (actions_of p at me rule)).reg (field i at.object) ≡ status_number (slice_get (local_after p at.kind rule me local heads).fields i)
    field_shown i less =
        let count = field_count_kept p at.kind rule me local heads in
        let within : i < length local.fields = rw count at less in
        let there = at_below local.fields i within in
        field_after s p at rule me local heads (counts_of p (part p at.kind)) i (sym formed.field_count) (declared (counts_of p (part p at.kind)) rule known).sets (shows.fields i there.0 there.1 ∙ sym (ap status_number there.1))
