-- The actions on an object's locks lead to what a firing makes of them.
use Rattle.std.proofs.Common.{◌≡◌, refl, ap, sym, ◌∙◌, ℕ, Bool, true, false, not, ◌&&◌, List, [], ◌∷◌, ◌++◌, map, Option, Some, None}
use Rattle.std.specs.Prelude.{unwrap_or}
use Rattle.std.specs.List.{list_all, flat_map}
use Rattle.std.specs.Option.{option_map_or}
use Rattle.hem_base.specs.declared.ids.KidSet.{KidSet}
use Rattle.hem_base.specs.declared.ids.Message.{Message}
use Rattle.hem_syntax.specs.declared.rule.Rule.{Rule}
use Rattle.hem_syntax.specs.declared.rule.Side.{Side}
use Rattle.hem_syntax.specs.declared.rule.Side.TheVariants.{Up, Down}
use Rattle.hem_syntax.specs.declared.rule.Origin.{Origin}
use Rattle.hem_syntax.specs.declared.rule.Take.{Take}
use Rattle.hem_syntax.specs.declared.rule.Assign.{Assign}
use Rattle.hem_syntax.specs.declared.rule.Assign.TheVariants as assign
use Rattle.hem_syntax.specs.declared.rule.SendTo.{SendTo}
use Rattle.hem_object.specs.declared.state.By.{By}
use Rattle.hem_object.specs.declared.state.Lock.{Lock}
use Rattle.hem_object.specs.declared.state.View.{View}
use Rattle.hem_syntax.specs.Protocol.{Protocol}
use Rattle.hem_object.specs.Local.{Local}
use Rattle.hem_object.specs.Guard.{value_of}
use Rattle.hem_template.specs.Template.{same_side}
use Rattle.hem_object.specs.Changes.{assign_own, assign_targets, assign_me, assigned, freed, locked}
use Rattle.hem_object.specs.Targets.{targets_of}
use Rattle.hem_fire.specs.Heads.{Heads}
use Rattle.hem_fire.specs.View.{view_of}
use Rattle.hem_fire.specs.Locks.{lock_by, lock_taken, awaited_by, request_in_hand}
use Rattle.hem_fire.specs.OneFire.{local_after}
use Rattle.hem_module.specs.Module.{number, put}
use Rattle.hem_module.specs.Step.{Held, amount_in, number_after}
use Rattle.hem_emit.specs.Names.{Part, origin, asked, kept, Reg, Queue, field, val, lock, entry, awaits, same_reg}
use Rattle.hem_emit.specs.Place.{Place, Amount, kids_at, asker_of, origin_at, origin_of}
use Rattle.hem_emit.specs.Actions.{always, set_own, set_targets, set_me, set_actions, take_actions, free_lock, free_actions, origin_amount, id_in_hand, value_in_hand, with_value, await_actions, lock_actions, send_actions, actions_of, targets_at, where_holds}
use Rattle.hem_emit.specs.Image.{lock_at, lock_number}
use Rattle.hem_emit.specs.Shows.{Shows}
use Rattle.hem_emit.proofs.Tests.{same_number}
use Rattle.hem_emit.proofs.Writes.{leaves, number_after-append, all_leave, map_leaves, flat_leaves, both_leave, value_leaves, takes_leave, sends_leave}
use Rattle.hem_emit.proofs.After.{in_turn-keeps}
use Rattle.hem_emit.proofs.Owned.{targets_leave, me_leave}
use Rattle.hem_emit.proofs.Amounts.{is_plain, plain_put}

-- the sets of a rule leave its locks and who is awaited
pub sets_leave : (is_it : Reg → Bool) (at : Place) (me : Option ℕ) (rule : Rule) → ((i o : ℕ) → is_it (field i o) ≡ false) → ((o : ℕ) → is_it (val o) ≡ false) → ((c : ℕ) → is_it (entry c) ≡ false) → list_all (leaves is_it) (set_actions at me rule) ≡ true
sets_leave is_it at me rule no_field no_val no_entry =
    both_leave is_it (flat_map (set_own at me rule.take) rule.sets ++ flat_map (set_targets at) rule.sets) (flat_map (set_me at (asker_of rule.take me)) rule.sets)
    (both_leave is_it (flat_map (set_own at me rule.take) rule.sets) (flat_map (set_targets at) rule.sets) (flat_leaves is_it (set_own at me rule.take) rule.sets each) (targets_leave is_it at no_entry rule.sets))
    (me_leave is_it at (asker_of rule.take me) no_entry rule.sets)
  where
    not_of : (b : Bool) → b ≡ false → not b ≡ true
    not_of b is = cc

    one_not : (b : Bool) → b ≡ false → (not b && true) ≡ true
    one_not b is = rw is refl

    each : (a : Assign) → list_all (leaves is_it) (set_own at me rule.take a) ≡ true
    each (assign.Field i s) = one_not _ (no_field i at.object)
    each (assign.Val v) = value_leaves is_it at me rule.take v [] (put (val at.object)) (λ a. not_of _ (no_val at.object))
    each (assign.Me s) = refl
    each (assign.Targets s) = refl

-- a register that only freeing and taking a lock change
pub lock_alone : (s : Held Reg Queue) (is_it : Reg → Bool) (p : Protocol) (at : Place) (me : Option ℕ) (rule : Rule) (old : ℕ) → ((i o : ℕ) → is_it (field i o) ≡ false) → ((o : ℕ) → is_it (val o) ≡ false) → ((c : ℕ) → is_it (entry c) ≡ false) → number_after s is_it (actions_of p at me rule) old ≡ number_after s is_it (lock_actions p at me rule rule.lock) (number_after s is_it (free_actions at rule.free) old)
lock_alone s is_it p at me rule old no_field no_val no_entry =
    let takes = take_actions at me rule.take in
    let sets = set_actions at me rule in
    let free = free_actions at rule.free in
    let locks = lock_actions p at me rule rule.lock in
    let sends = send_actions p at me rule.take rule.send in
    number_after-append s is_it (takes ++ sets ++ free ++ locks) sends old
    ∙ all_leave s is_it sends _ (sends_leave is_it p at me rule.take rule.send)
    ∙ number_after-append s is_it (takes ++ sets ++ free) locks old
    ∙ ap (number_after s is_it locks) (
    number_after-append s is_it (takes ++ sets) free old
    ∙ ap (number_after s is_it free) (
    number_after-append s is_it takes sets old
    ∙ all_leave s is_it sets _ (sets_leave is_it at me rule no_field no_val no_entry)
    ∙ all_leave s is_it takes old (takes_leave is_it at me rule.take)))

-- what sets leave of the locks
own_keeps : (local : Local) (side : Side) (view : View) (a : Assign) (x : Local) → lock_at side (assign_own local view a x) ≡ lock_at side x
own_keeps local Up view (assign.Field i s) x = refl
own_keeps local Up view (assign.Val v) x = refl
own_keeps local Up view (assign.Me s) x = refl
own_keeps local Up view (assign.Targets s) x = refl
own_keeps local Down view (assign.Field i s) x = refl
own_keeps local Down view (assign.Val v) x = refl
own_keeps local Down view (assign.Me s) x = refl
own_keeps local Down view (assign.Targets s) x = refl

targets_keep : (side : Side) (view : View) (a : Assign) (x : Local) → lock_at side (assign_targets view a x) ≡ lock_at side x
targets_keep Up view (assign.Field i s) x = refl
targets_keep Up view (assign.Val v) x = refl
targets_keep Up view (assign.Me s) x = refl
targets_keep Up view (assign.Targets s) x = refl
targets_keep Down view (assign.Field i s) x = refl
targets_keep Down view (assign.Val v) x = refl
targets_keep Down view (assign.Me s) x = refl
targets_keep Down view (assign.Targets s) x = refl

me_keeps : (side : Side) (view : View) (a : Assign) (x : Local) → lock_at side (assign_me view a x) ≡ lock_at side x
me_keeps Up view (assign.Field i s) x = refl
me_keeps Up view (assign.Val v) x = refl
me_keeps Up view (assign.Me s) x = refl
me_keeps Up view (assign.Targets s) x = refl
me_keeps Down view (assign.Field i s) x = refl
me_keeps Down view (assign.Val v) x = refl
me_keeps Down view (assign.Me s) x = refl
me_keeps Down view (assign.Targets s) x = refl

-- the sets of a rule keep its locks
pub sets_keep : (local : Local) (side : Side) (view : View) (sets : List Assign) → lock_at side (assigned sets view local) ≡ lock_at side local
sets_keep local side view sets =
    in_turn-keeps (lock_at side) (assign_me view) (me_keeps side view) sets _
    ∙ in_turn-keeps (lock_at side) (assign_targets view) (targets_keep side view) sets _
    ∙ in_turn-keeps (lock_at side) (assign_own local view) (own_keeps local side view) sets local

-- a lock that is freed
free_number : (s : Held Reg Queue) (at : Place) (side : Side) (part : Part) (free : Option Side) (local : Local) → number_after s (same_reg (lock side part at.object)) (free_actions at free) (lock_number at.kids part (lock_at side local)) ≡ lock_number at.kids part (lock_at side (freed free local))
free_number s at side part None local = refl
free_number s at Up origin (Some Up) local = rw (same_number at.object at.object refl) refl
free_number s at Up asked (Some Up) local = rw (same_number at.object at.object refl) refl
free_number s at Up kept (Some Up) local = rw (same_number at.object at.object refl) refl
free_number s at Down part (Some Up) local = refl
free_number s at Up part (Some Down) local =
    number_after-append s (same_reg (lock Up part at.object)) (free_lock at Down) (map (λ k. always (put (awaits k.1) (number 0))) (kids_at at)) _
    ∙ all_leave s (same_reg (lock Up part at.object)) (map (λ k. always (put (awaits k.1) (number 0))) (kids_at at)) _ (map_leaves (same_reg (lock Up part at.object)) (λ k. always (put (awaits k.1) (number 0))) (kids_at at) (λ k. refl))
free_number s at Down part (Some Down) local =
    number_after-append s (same_reg (lock Down part at.object)) (free_lock at Down) (map (λ k. always (put (awaits k.1) (number 0))) (kids_at at)) _
    ∙ all_leave s (same_reg (lock Down part at.object)) (map (λ k. always (put (awaits k.1) (number 0))) (kids_at at)) _ (map_leaves (same_reg (lock Down part at.object)) (λ k. always (put (awaits k.1) (number 0))) (kids_at at) (λ k. refl))
    ∙ three part
  where
    three : (part : Part) → number_after s (same_reg (lock Down part at.object)) (free_lock at Down) (lock_number at.kids part (lock_at Down local)) ≡ lock_number at.kids part None
    three origin = rw (same_number at.object at.object refl) refl
    three asked = rw (same_number at.object at.object refl) refl
    three kept = rw (same_number at.object at.object refl) refl

-- of two writes the one of a register
first_put : (s : Held Reg Queue) (is_it : Reg → Bool) (q r : Reg) (a b : Amount) (old : ℕ) → is_it q ≡ true → is_it r ≡ false → number_after s is_it (always (put q a) ∷ always (put r b) ∷ []) old ≡ amount_in s a
first_put s is_it q r a b old one other = rw (one, other) refl

second_put : (s : Held Reg Queue) (is_it : Reg → Bool) (q r : Reg) (a b : Amount) (old : ℕ) → is_it r ≡ true → is_it q ≡ false → number_after s is_it (always (put q a) ∷ always (put r b) ∷ []) old ≡ amount_in s b
second_put s is_it q r a b old one other = rw one refl

-- the lock that a firing takes is the one that the actions write
pub record InHand (p : Protocol) (at : Place) (me : Option ℕ) (s : Held Reg Queue) (tk : Take) (to : SendTo) (local : Local) (heads : Heads) (wanted : Origin) : Type 0 where
  pub by : By
  pub request : Message
  pub holder : lock_by wanted (view_of tk me local heads) ≡ Some by
  pub keeps : request_in_hand p tk to local (view_of tk me local heads) heads ≡ Some request
  pub by_read : amount_in s (origin_amount at (asker_of tk me) wanted) ≡ origin_of at.kids by
  pub id_read : amount_in s (id_in_hand p at tk to) ≡ request.id.0
  pub value_read : unwrap_or (value_of (value_in_hand p tk to) local (view_of tk me local heads)) 0 ≡ request.value
  pub plain : is_plain (value_in_hand p tk to) ≡ true

-- each rule that locks has a lock in hand
abbrev pub AllInHand : Protocol → Place → Option ℕ → Held Reg Queue → Rule → Local → Heads → Type 0
AllInHand p at me s rule local heads = (l : Side × Origin) → rule.lock ≡ Some l → InHand p at me s rule.take rule.send local heads l.1

await_leaves : (is_it : Reg → Bool) (at : Place) (me : Option ℕ) (rule : Rule) (side : Side) → ((c : ℕ) → is_it (awaits c) ≡ false) → list_all (leaves is_it) (await_actions at (asker_of rule.take me) rule.send side) ≡ true
await_leaves is_it at me rule Up never = refl
await_leaves is_it at me rule Down never = map_leaves is_it (λ x. where_holds x.1 (put (awaits x.0.1) (number 1))) (targets_at at (asker_of rule.take me) rule.send) (λ x. not_of _ (never x.0.1))
  where
    not_of : (b : Bool) → b ≡ false → not b ≡ true
    not_of b is = cc

module _ {at : Place} {me : Option ℕ} {local : Local} {heads : Heads} {s : Held Reg Queue} (shows : Shows at me local heads s) (p : Protocol) (rule : Rule) where
  -- the registers of the lock that is taken
  taken_number : (side : Side) (part : Part) (wanted : Origin) (hand : InHand p at me s rule.take rule.send local heads wanted) (old : ℕ) (awaited : KidSet) → number_after s (same_reg (lock side part at.object)) (lock_actions p at me rule (Some (side, wanted))) old ≡ lock_number at.kids part (Some (record { by = hand.by; request = hand.request; awaited = awaited }))
  taken_number side part wanted hand old awaited =
      number_after-append s (same_reg (lock side part at.object)) (with_value at me rule.take (value_in_hand p rule.take rule.send) [] (put (lock side kept at.object))) (await_actions at (asker_of rule.take me) rule.send side) _
      ∙ all_leave s (same_reg (lock side part at.object)) (await_actions at (asker_of rule.take me) rule.send side) _ (await_leaves (same_reg (lock side part at.object)) at me rule side (λ c. refl))
      ∙ by_part side part
    where
      by_part : (side : Side) (part : Part) → number_after s (same_reg (lock side part at.object)) (with_value at me rule.take (value_in_hand p rule.take rule.send) [] (put (lock side kept at.object))) (number_after s (same_reg (lock side part at.object)) (always (put (origin_at at side) (origin_amount at (asker_of rule.take me) wanted)) ∷ always (put (lock side asked at.object) (id_in_hand p at rule.take rule.send)) ∷ []) old) ≡ lock_number at.kids part (Some (record { by = hand.by; request = hand.request; awaited = awaited }))
      by_part Up origin = all_leave s (same_reg (lock Up origin at.object)) (with_value at me rule.take (value_in_hand p rule.take rule.send) [] (put (lock Up kept at.object))) (number_after s (same_reg (lock Up origin at.object)) (always (put (origin_at at Up) (origin_amount at (asker_of rule.take me) wanted)) ∷ always (put (lock Up asked at.object) (id_in_hand p at rule.take rule.send)) ∷ []) old) (value_leaves (same_reg (lock Up origin at.object)) at me rule.take (value_in_hand p rule.take rule.send) [] (put (lock Up kept at.object)) (λ a. refl)) ∙ first_put s (same_reg (lock Up origin at.object)) (origin_at at Up) (lock Up asked at.object) (origin_amount at (asker_of rule.take me) wanted) (id_in_hand p at rule.take rule.send) old (same_number at.object at.object refl) refl ∙ hand.by_read
      by_part Up asked = all_leave s (same_reg (lock Up asked at.object)) (with_value at me rule.take (value_in_hand p rule.take rule.send) [] (put (lock Up kept at.object))) (number_after s (same_reg (lock Up asked at.object)) (always (put (origin_at at Up) (origin_amount at (asker_of rule.take me) wanted)) ∷ always (put (lock Up asked at.object) (id_in_hand p at rule.take rule.send)) ∷ []) old) (value_leaves (same_reg (lock Up asked at.object)) at me rule.take (value_in_hand p rule.take rule.send) [] (put (lock Up kept at.object)) (λ a. refl)) ∙ second_put s (same_reg (lock Up asked at.object)) (origin_at at Up) (lock Up asked at.object) (origin_amount at (asker_of rule.take me) wanted) (id_in_hand p at rule.take rule.send) old (same_number at.object at.object refl) refl ∙ hand.id_read
      by_part Up kept = plain_put shows (same_reg (lock Up kept at.object)) (lock Up kept at.object) (same_number at.object at.object refl) rule.take (value_in_hand p rule.take rule.send) (number_after s (same_reg (lock Up kept at.object)) (always (put (origin_at at Up) (origin_amount at (asker_of rule.take me) wanted)) ∷ always (put (lock Up asked at.object) (id_in_hand p at rule.take rule.send)) ∷ []) old) hand.plain ∙ hand.value_read
      by_part Down origin = all_leave s (same_reg (lock Down origin at.object)) (with_value at me rule.take (value_in_hand p rule.take rule.send) [] (put (lock Down kept at.object))) (number_after s (same_reg (lock Down origin at.object)) (always (put (origin_at at Down) (origin_amount at (asker_of rule.take me) wanted)) ∷ always (put (lock Down asked at.object) (id_in_hand p at rule.take rule.send)) ∷ []) old) (value_leaves (same_reg (lock Down origin at.object)) at me rule.take (value_in_hand p rule.take rule.send) [] (put (lock Down kept at.object)) (λ a. refl)) ∙ first_put s (same_reg (lock Down origin at.object)) (origin_at at Down) (lock Down asked at.object) (origin_amount at (asker_of rule.take me) wanted) (id_in_hand p at rule.take rule.send) old (same_number at.object at.object refl) refl ∙ hand.by_read
      by_part Down asked = all_leave s (same_reg (lock Down asked at.object)) (with_value at me rule.take (value_in_hand p rule.take rule.send) [] (put (lock Down kept at.object))) (number_after s (same_reg (lock Down asked at.object)) (always (put (origin_at at Down) (origin_amount at (asker_of rule.take me) wanted)) ∷ always (put (lock Down asked at.object) (id_in_hand p at rule.take rule.send)) ∷ []) old) (value_leaves (same_reg (lock Down asked at.object)) at me rule.take (value_in_hand p rule.take rule.send) [] (put (lock Down kept at.object)) (λ a. refl)) ∙ second_put s (same_reg (lock Down asked at.object)) (origin_at at Down) (lock Down asked at.object) (origin_amount at (asker_of rule.take me) wanted) (id_in_hand p at rule.take rule.send) old (same_number at.object at.object refl) refl ∙ hand.id_read
      by_part Down kept = plain_put shows (same_reg (lock Down kept at.object)) (lock Down kept at.object) (same_number at.object at.object refl) rule.take (value_in_hand p rule.take rule.send) (number_after s (same_reg (lock Down kept at.object)) (always (put (origin_at at Down) (origin_amount at (asker_of rule.take me) wanted)) ∷ always (put (lock Down asked at.object) (id_in_hand p at rule.take rule.send)) ∷ []) old) hand.plain ∙ hand.value_read

  -- of a lock of the other side nothing is written
  other_number : (side other : Side) (part : Part) (wanted : Origin) (old : ℕ) → same_side other side ≡ false → number_after s (same_reg (lock other part at.object)) (lock_actions p at me rule (Some (side, wanted))) old ≡ old
  other_number side other part wanted old apart =
      all_leave s (same_reg (lock other part at.object)) (lock_actions p at me rule (Some (side, wanted))) old (
      and_three _ _ _ (rw apart refl) (rw apart refl)
      (both_leave (same_reg (lock other part at.object)) (with_value at me rule.take (value_in_hand p rule.take rule.send) [] (put (lock side kept at.object))) (await_actions at (asker_of rule.take me) rule.send side)
      (value_leaves (same_reg (lock other part at.object)) at me rule.take (value_in_hand p rule.take rule.send) [] (put (lock side kept at.object)) (λ a. rw apart refl))
      (await_leaves (same_reg (lock other part at.object)) at me rule side (λ c. refl))))
    where
      and_three : (a b c : Bool) → a ≡ false → b ≡ false → c ≡ true → (not a && (not b && c)) ≡ true
      and_three a b c one two other = rw (one, two, other) refl

  -- a lock after what is freed and taken
  lock_number_after : (lock_is : Option (Side × Origin)) → ((l : Side × Origin) → lock_is ≡ Some l → InHand p at me s rule.take rule.send local heads l.1) → (side : Side) (part : Part) (left : Local) (awaited : KidSet) → number_after s (same_reg (lock side part at.object)) (lock_actions p at me rule lock_is) (lock_number at.kids part (lock_at side left)) ≡ lock_number at.kids part (lock_at side (option_map_or (λ l. locked l.0 l.1 left) (lock_taken lock_is (view_of rule.take me local heads) (request_in_hand p rule.take rule.send local (view_of rule.take me local heads) heads) awaited) left))
  lock_number_after None in_hand side part left awaited = refl
  lock_number_after (Some l) in_hand side part left awaited =
      let hand = in_hand l refl in
      by_side l.0 side hand
      ∙ sym (ap (λ (taken : Option (Side × Lock)). lock_number at.kids part (lock_at side (option_map_or (λ l. locked l.0 l.1 left) taken left))) (taken_is hand))
    where
      taken_is : (hand : InHand p at me s rule.take rule.send local heads l.1) → lock_taken (Some l) (view_of rule.take me local heads) (request_in_hand p rule.take rule.send local (view_of rule.take me local heads) heads) awaited ≡ Some (l.0, record { by = hand.by; request = hand.request; awaited = awaited_by l.0 awaited })
      taken_is hand = rw (hand.keeps, hand.holder) refl

      by_side : (at_side side : Side) (hand : InHand p at me s rule.take rule.send local heads l.1) → number_after s (same_reg (lock side part at.object)) (lock_actions p at me rule (Some (at_side, l.1))) (lock_number at.kids part (lock_at side left)) ≡ lock_number at.kids part (lock_at side (locked at_side (record { by = hand.by; request = hand.request; awaited = awaited_by at_side awaited }) left))
      by_side Up Up hand = taken_number Up part l.1 hand _ (awaited_by Up awaited)
      by_side Down Down hand = taken_number Down part l.1 hand _ (awaited_by Down awaited)
      by_side Up Down hand = other_number Up Down part l.1 _ refl
      by_side Down Up hand = other_number Down Up part l.1 _ refl

  -- the actions of a rule lead from an object's lock to what it is after the firing
  pub lock_after : AllInHand p at me s rule local heads → (side : Side) (part : Part) → number_after s (same_reg (lock side part at.object)) (actions_of p at me rule) (s.reg (lock side part at.object)) ≡ lock_number at.kids part (lock_at side (local_after p at.kind rule me local heads))
  lock_after in_hand side part =
      let view = view_of rule.take me local heads in
      let set = assigned rule.sets view local in
      let left = freed rule.free set in
      lock_alone s (same_reg (lock side part at.object)) p at me rule (s.reg (lock side part at.object)) (λ i o. refl) (λ o. refl) (λ c. refl)
      ∙ ap (number_after s (same_reg (lock side part at.object)) (lock_actions p at me rule rule.lock)) (
      ap (number_after s (same_reg (lock side part at.object)) (free_actions at rule.free)) (shows.locks side part ∙ sym (ap (lock_number at.kids part) (sets_keep local side view rule.sets)))
      ∙ free_number s at side part rule.free set)
      ∙ lock_number_after rule.lock in_hand side part left (targets_of rule.send local view)
