-- The actions on an object's fields and value lead to what a firing makes of them.
use Rattle.std.proofs.Common.{◌≡◌, ◌≢◌, refl, ap, sym, ◌∙◌, ℕ, ◌<◌, Bool, true, false, not, cond, ◌&&◌, List, [], ◌∷◌, ◌++◌, length, map, arith, inl, inr, ◌⊎◌, Option, Some, None}
use Rattle.std.specs.Prelude.{◌==◌, slice_get, slice_set, unwrap_or, nat_lt, filter}
use Rattle.std.specs.List.{list_all, flat_map}
use Rattle.std.proofs.lemmas.Bool.Decides.{eqb_tells}
use Rattle.std.proofs.lemmas.List.{length-set}
use Rattle.hem_base.specs.declared.ids.Status8.{Status8}
use Rattle.hem_syntax.specs.declared.rule.Rule.{Rule}
use Rattle.hem_syntax.specs.declared.rule.Side.{Side}
use Rattle.hem_syntax.specs.declared.rule.Side.TheVariants.{Up, Down}
use Rattle.hem_syntax.specs.declared.rule.Origin.{Origin}
use Rattle.hem_syntax.specs.declared.rule.Take.{Take}
use Rattle.hem_syntax.specs.declared.rule.Value.{Value}
use Rattle.hem_syntax.specs.declared.rule.Assign.{Assign}
use Rattle.hem_syntax.specs.declared.rule.Assign.TheVariants as assign
use Rattle.hem_syntax.specs.declared.rule.SendTo.{SendTo}
use Rattle.hem_object.specs.declared.state.View.{View}
use Rattle.hem_syntax.specs.Protocol.{Protocol}
use Rattle.hem_object.specs.Local.{Local}
use Rattle.hem_object.specs.Guard.{value_of}
use Rattle.hem_syntax.specs.Lawful.{Counts, has_assign}
use Rattle.hem_object.specs.Changes.{in_turn, assign_own}
use Rattle.hem_fire.specs.Heads.{Heads}
use Rattle.hem_fire.specs.View.{view_of}
use Rattle.hem_fire.specs.OneFire.{local_after}
use Rattle.hem_system.proofs.Sets.{get_set_here, get_set_other}
use Rattle.hem_module.specs.Module.{number, put}
use Rattle.hem_module.specs.Step.{Held, number_after}
use Rattle.hem_rows.proofs.Choices.{both}
use Rattle.hem_emit.specs.Names.{Reg, Queue, field, val, lock, entry, awaits, origin, asked, kept, same_reg}
use Rattle.hem_emit.specs.Place.{Place, Asker, fixed, holder, kids_at, asker_of, is_named}
use Rattle.hem_emit.specs.Clauses.{held_for}
use Rattle.hem_emit.specs.Actions.{always, where_holds, is_awaited, set_own, set_targets, set_me, free_lock, free_actions, take_actions, lock_actions, await_actions, targets_at, with_value, value_in_hand, send_actions, actions_of}
use Rattle.hem_emit.specs.Image.{status_number}
use Rattle.hem_emit.proofs.Tests.{same_number}
use Rattle.hem_emit.proofs.Writes.{leaves, number_after-append, all_leave, map_leaves, flat_leaves, both_leave, value_leaves, takes_leave, sends_leave}
use Rattle.hem_emit.proofs.After.{own_after, fields_own, val_own}

not_of : (b : Bool) → b ≡ false → not b ≡ true
not_of b is = cc

pub targets_leave : (is_it : Reg → Bool) (at : Place) → ((c : ℕ) → is_it (entry c) ≡ false) → (sets : List Assign) → list_all (leaves is_it) (flat_map (set_targets at) sets) ≡ true
targets_leave is_it at never sets = flat_leaves is_it (set_targets at) sets each
  where
    each : (a : Assign) → list_all (leaves is_it) (set_targets at a) ≡ true
    each (assign.Field i s) = refl
    each (assign.Val v) = refl
    each (assign.Me s) = refl
    each (assign.Targets s) = map_leaves is_it (λ k. where_holds (is_awaited k ∷ []) (put (entry k.1) (number s.0))) (kids_at at) (λ k. not_of _ (never k.1))

pub me_leave : (is_it : Reg → Bool) (at : Place) (who : Asker) → ((c : ℕ) → is_it (entry c) ≡ false) → (sets : List Assign) → list_all (leaves is_it) (flat_map (set_me at who) sets) ≡ true
me_leave is_it at who never sets = flat_leaves is_it (set_me at who) sets (each who)
  where
    each : (who : Asker) (a : Assign) → list_all (leaves is_it) (set_me at who a) ≡ true
    each (fixed me) (assign.Me s) = map_leaves is_it (λ k. always (put (entry k.1) (number s.0))) (filter (λ k. is_named me k.0) (kids_at at)) (λ k. not_of _ (never k.1))
    each (holder side) (assign.Me s) = map_leaves is_it (λ k. where_holds (held_for at side k ∷ []) (put (entry k.1) (number s.0))) (kids_at at) (λ k. not_of _ (never k.1))
    each (fixed me) (assign.Field i s) = refl
    each (fixed me) (assign.Val v) = refl
    each (fixed me) (assign.Targets s) = refl
    each (holder side) (assign.Field i s) = refl
    each (holder side) (assign.Val v) = refl
    each (holder side) (assign.Targets s) = refl

-- freeing and taking a lock leave a register that is no lock's and says of no child that it is awaited
pub record NoLock (is_it : Reg → Bool) : Type 0 where
  pub no_awaits : (c : ℕ) → is_it (awaits c) ≡ false
  pub no_origin : (side : Side) (o : ℕ) → is_it (lock side origin o) ≡ false
  pub no_asked : (side : Side) (o : ℕ) → is_it (lock side asked o) ≡ false
  pub no_kept : (side : Side) (o : ℕ) → is_it (lock side kept o) ≡ false

three_not : (a b c : Bool) → a ≡ false → b ≡ false → c ≡ false → (not a && (not b && (not c && true))) ≡ true
three_not a b c one two other = rw (one, two, other) refl

pub free_leaves : (is_it : Reg → Bool) (at : Place) → NoLock is_it → (free : Option Side) → list_all (leaves is_it) (free_actions at free) ≡ true
free_leaves is_it at no_lock None = refl
free_leaves is_it at no_lock (Some Up) = three_not _ _ _ (no_lock.no_origin Up at.object) (no_lock.no_asked Up at.object) (no_lock.no_kept Up at.object)
free_leaves is_it at no_lock (Some Down) =
    both_leave is_it (free_lock at Down) (map (λ k. always (put (awaits k.1) (number 0))) (kids_at at))
    (three_not _ _ _ (no_lock.no_origin Down at.object) (no_lock.no_asked Down at.object) (no_lock.no_kept Down at.object))
    (map_leaves is_it (λ k. always (put (awaits k.1) (number 0))) (kids_at at) (λ k. not_of _ (no_lock.no_awaits k.1)))

await_leaves : (is_it : Reg → Bool) (at : Place) (who : Asker) (to : SendTo) → NoLock is_it → (side : Side) → list_all (leaves is_it) (await_actions at who to side) ≡ true
await_leaves is_it at who to no_lock Up = refl
await_leaves is_it at who to no_lock Down = map_leaves is_it (λ x. where_holds x.1 (put (awaits x.0.1) (number 1))) (targets_at at who to) (λ x. not_of _ (no_lock.no_awaits x.0.1))

pub lock_leaves : (is_it : Reg → Bool) (p : Protocol) (at : Place) (me : Option ℕ) (rule : Rule) → NoLock is_it → (lock : Option (Side × Origin)) → list_all (leaves is_it) (lock_actions p at me rule lock) ≡ true
lock_leaves is_it p at me rule no_lock None = refl
lock_leaves is_it p at me rule no_lock (Some l) =
    and_three_not _ _ _ (no_lock.no_origin l.0 at.object) (no_lock.no_asked l.0 at.object)
    (both_leave is_it (with_value at me rule.take (value_in_hand p rule.take rule.send) [] (put (lock l.0 kept at.object))) (await_actions at (asker_of rule.take me) rule.send l.0)
    (value_leaves is_it at me rule.take (value_in_hand p rule.take rule.send) [] (put (lock l.0 kept at.object)) (λ a. not_of _ (no_lock.no_kept l.0 at.object)))
    (await_leaves is_it at (asker_of rule.take me) rule.send no_lock l.0))
  where
    and_three_not : (a b c : Bool) → a ≡ false → b ≡ false → c ≡ true → (not a && (not b && c)) ≡ true
    and_three_not a b c one two other = rw (one, two, other) refl

-- the number of a register of which the sets of fields and value alone speak
pub own_number : (s : Held Reg Queue) (is_it : Reg → Bool) (p : Protocol) (at : Place) (me : Option ℕ) (rule : Rule) (old : ℕ) → NoLock is_it → ((c : ℕ) → is_it (entry c) ≡ false) → number_after s is_it (actions_of p at me rule) old ≡ number_after s is_it (flat_map (set_own at me rule.take) rule.sets) old
own_number s is_it p at me rule old no_lock never =
    let takes = take_actions at me rule.take in
    let own = flat_map (set_own at me rule.take) rule.sets in
    let targets = flat_map (set_targets at) rule.sets in
    let mine = flat_map (set_me at (asker_of rule.take me)) rule.sets in
    let free = free_actions at rule.free in
    let locks = lock_actions p at me rule rule.lock in
    let sends = send_actions p at me rule.take rule.send in
    number_after-append s is_it (takes ++ (own ++ targets ++ mine) ++ free ++ locks) sends old
    ∙ all_leave s is_it sends _ (sends_leave is_it p at me rule.take rule.send)
    ∙ number_after-append s is_it (takes ++ (own ++ targets ++ mine) ++ free) locks old
    ∙ all_leave s is_it locks _ (lock_leaves is_it p at me rule no_lock rule.lock)
    ∙ number_after-append s is_it (takes ++ (own ++ targets ++ mine)) free old
    ∙ all_leave s is_it free _ (free_leaves is_it at no_lock rule.free)
    ∙ number_after-append s is_it takes (own ++ targets ++ mine) old
    ∙ ap (number_after s is_it (own ++ targets ++ mine)) (all_leave s is_it takes old (takes_leave is_it at me rule.take))
    ∙ number_after-append s is_it (own ++ targets) mine old
    ∙ all_leave s is_it mine _ (me_leave is_it at (asker_of rule.take me) never rule.sets)
    ∙ number_after-append s is_it own targets old
    ∙ all_leave s is_it targets _ (targets_leave is_it at never rule.sets)

-- a field that is set
set_field : (fields : List Status8) (i j : ℕ) (status : Status8) → j < length fields → (b : Bool) → (i == j) ≡ b → cond b status.0 (status_number (slice_get fields i)) ≡ status_number (slice_get (slice_set fields j status) i)
set_field fields i j status less b is = by_place (eqb_tells i j)
  where
    by_place : ((i == j) ≡ true) × (i ≡ j) ⊎ ((i == j) ≡ false) × (i ≢ j) → cond b status.0 (status_number (slice_get fields i)) ≡ status_number (slice_get (slice_set fields j status) i)
    by_place (inl same) =
        let yes_it_is : b ≡ true = sym is ∙ same.0 in
        ap (λ b. cond b status.0 (status_number (slice_get fields i))) yes_it_is
        ∙ sym (ap status_number (ap (slice_get (slice_set fields j status)) same.1 ∙ get_set_here fields j status less))
    by_place (inr other) =
        let no_it_is : b ≡ false = sym is ∙ other.0 in
        ap (λ b. cond b status.0 (status_number (slice_get fields i))) no_it_is
        ∙ sym (ap status_number (get_set_other fields j i status other.1))

-- the fields after the sets
fields_set : (s : Held Reg Queue) (at : Place) (me : Option ℕ) (t : Take) (local : Local) (view : View) (n : Counts) (i : ℕ) (sets : List Assign) (before : Local) → n.fields ≡ length before.fields → list_all (has_assign n) sets ≡ true → number_after s (same_reg (field i at.object)) (flat_map (set_own at me t) sets) (status_number (slice_get before.fields i)) ≡ status_number (slice_get (in_turn (assign_own local view) sets before).fields i)
fields_set s at me t local view n i [] before count known = refl
fields_set s at me t local view n i (assign.Field j status ∷ sets) before count known =
    let parts = both (nat_lt j n.fields && nat_lt status.0 n.statuses) (list_all (has_assign n) sets) known in
    let less = in_range j n.fields (length before.fields) (both (nat_lt j n.fields) (nat_lt status.0 n.statuses) parts.0).0 count in
    number_after-append s (same_reg (field i at.object)) (set_own at me t (assign.Field j status)) (flat_map (set_own at me t) sets) (status_number (slice_get before.fields i))
    ∙ ap (number_after s (same_reg (field i at.object)) (flat_map (set_own at me t) sets)) (set_field before.fields i j status less (i == j && at.object == at.object) (here (i == j)))
    ∙ fields_set s at me t local view n i sets (record before { fields = slice_set before.fields j status }) (count ∙ sym (length-set before.fields j status)) parts.1
  where
    in_range : (a b c : ℕ) → nat_lt a b ≡ true → b ≡ c → a < c
    in_range a b c less same = grind arith

    here : (b : Bool) → b ≡ (b && at.object == at.object)
    here true = sym (same_number at.object at.object refl)
    here false = refl
fields_set s at me t local view n i (assign.Val v ∷ sets) before count known =
    number_after-append s (same_reg (field i at.object)) (set_own at me t (assign.Val v)) (flat_map (set_own at me t) sets) (status_number (slice_get before.fields i))
    ∙ ap (number_after s (same_reg (field i at.object)) (flat_map (set_own at me t) sets)) (all_leave s (same_reg (field i at.object)) (with_value at me t v [] (put (val at.object))) _ (value_leaves (same_reg (field i at.object)) at me t v [] (put (val at.object)) (λ a. refl)))
    ∙ fields_set s at me t local view n i sets (record before { val = unwrap_or (value_of v local view) 0 }) count known
fields_set s at me t local view n i (assign.Me status ∷ sets) before count known = fields_set s at me t local view n i sets before count (both (nat_lt status.0 n.statuses) (list_all (has_assign n) sets) known).1
fields_set s at me t local view n i (assign.Targets status ∷ sets) before count known = fields_set s at me t local view n i sets before count (both (nat_lt status.0 n.statuses) (list_all (has_assign n) sets) known).1

-- the actions of a rule lead from an object's field to what it is after the firing
pub field_after : (s : Held Reg Queue) (p : Protocol) (at : Place) (rule : Rule) (me : Option ℕ) (local : Local) (heads : Heads) (n : Counts) (i : ℕ) → n.fields ≡ length local.fields → list_all (has_assign n) rule.sets ≡ true → s.reg (field i at.object) ≡ status_number (slice_get local.fields i) → number_after s (same_reg (field i at.object)) (actions_of p at me rule) (s.reg (field i at.object)) ≡ status_number (slice_get (local_after p at.kind rule me local heads).fields i)
field_after s p at rule me local heads n i count known shown =
    own_number s (same_reg (field i at.object)) p at me rule (s.reg (field i at.object)) (record { no_awaits = λ c. refl; no_origin = λ side o. refl; no_asked = λ side o. refl; no_kept = λ side o. refl }) (λ c. refl)
    ∙ ap (number_after s (same_reg (field i at.object)) (flat_map (set_own at me rule.take) rule.sets)) shown
    ∙ fields_set s at me rule.take local (view_of rule.take me local heads) n i rule.sets local count known
    ∙ sym (ap (λ fields. status_number (slice_get fields i)) (own_after (λ local. local.fields) fields_own p at.kind rule me local heads))

-- the value after the sets, where each value that is set is written as it is meant
values_set : (s : Held Reg Queue) (at : Place) (me : Option ℕ) (t : Take) (local : Local) (view : View) (fits : Assign → Bool) → ((v : Value) (old : ℕ) → fits (assign.Val v) ≡ true → number_after s (same_reg (val at.object)) (with_value at me t v [] (put (val at.object))) old ≡ unwrap_or (value_of v local view) 0) → (sets : List Assign) (before : Local) → list_all fits sets ≡ true → number_after s (same_reg (val at.object)) (flat_map (set_own at me t) sets) before.val ≡ (in_turn (assign_own local view) sets before).val
values_set s at me t local view fits written [] before fit = refl
values_set s at me t local view fits written (assign.Val v ∷ sets) before fit =
    let parts = both (fits (assign.Val v)) (list_all fits sets) fit in
    number_after-append s (same_reg (val at.object)) (set_own at me t (assign.Val v)) (flat_map (set_own at me t) sets) before.val
    ∙ ap (number_after s (same_reg (val at.object)) (flat_map (set_own at me t) sets)) (written v before.val parts.0)
    ∙ values_set s at me t local view fits written sets (record before { val = unwrap_or (value_of v local view) 0 }) parts.1
values_set s at me t local view fits written (assign.Field j status ∷ sets) before fit = values_set s at me t local view fits written sets (record before { fields = slice_set before.fields j status }) (both (fits (assign.Field j status)) (list_all fits sets) fit).1
values_set s at me t local view fits written (assign.Me status ∷ sets) before fit = values_set s at me t local view fits written sets before (both (fits (assign.Me status)) (list_all fits sets) fit).1
values_set s at me t local view fits written (assign.Targets status ∷ sets) before fit = values_set s at me t local view fits written sets before (both (fits (assign.Targets status)) (list_all fits sets) fit).1

-- the actions of a rule lead from an object's value to what it is after the firing
pub value_after : (s : Held Reg Queue) (p : Protocol) (at : Place) (rule : Rule) (me : Option ℕ) (local : Local) (heads : Heads) (fits : Assign → Bool) → ((v : Value) (old : ℕ) → fits (assign.Val v) ≡ true → number_after s (same_reg (val at.object)) (with_value at me rule.take v [] (put (val at.object))) old ≡ unwrap_or (value_of v local (view_of rule.take me local heads)) 0) → list_all fits rule.sets ≡ true → s.reg (val at.object) ≡ local.val → number_after s (same_reg (val at.object)) (actions_of p at me rule) (s.reg (val at.object)) ≡ (local_after p at.kind rule me local heads).val
value_after s p at rule me local heads fits written fit shown =
    own_number s (same_reg (val at.object)) p at me rule (s.reg (val at.object)) (record { no_awaits = λ c. refl; no_origin = λ side o. refl; no_asked = λ side o. refl; no_kept = λ side o. refl }) (λ c. refl)
    ∙ ap (number_after s (same_reg (val at.object)) (flat_map (set_own at me rule.take) rule.sets)) shown
    ∙ values_set s at me rule.take local (view_of rule.take me local heads) fits written rule.sets local fit
    ∙ sym (own_after (λ local. local.val) val_own p at.kind rule me local heads)
