-- The actions of a rule leave each register but those of its object and of its object's children.
use Rattle.std.proofs.Common.{◌≡◌, refl, ◌∙◌, ℕ, Bool, true, false, not, ◌&&◌, List, [], ◌∷◌, ◌++◌, map, Option, Some, None}
use Rattle.std.specs.Prelude.{filter, slice_get}
use Rattle.std.specs.List.{list_all, flat_map}
use Rattle.std.proofs.lemmas.List.Folds.{list_all-map}
use Rattle.hem_syntax.specs.declared.rule.Rule.{Rule}
use Rattle.hem_syntax.specs.declared.rule.Side.{Side}
use Rattle.hem_syntax.specs.declared.rule.Side.TheVariants.{Up, Down}
use Rattle.hem_syntax.specs.declared.rule.Origin.{Origin}
use Rattle.hem_syntax.specs.declared.rule.Assign.{Assign}
use Rattle.hem_syntax.specs.declared.rule.Assign.TheVariants as assign
use Rattle.hem_syntax.specs.Protocol.{Protocol}
use Rattle.hem_module.specs.Module.{number, put}
use Rattle.hem_emit.specs.Names.{Part, origin, asked, kept, Reg, field, val, lock, entry, awaits}
use Rattle.hem_emit.specs.Place.{Test, Place, Asker, fixed, holder, kids_at, is_named, asker_of}
use Rattle.hem_emit.specs.Clauses.{held_for}
use Rattle.hem_emit.specs.Actions.{always, where_holds, is_awaited, set_own, set_targets, set_me, set_actions, with_value, value_in_hand, targets_at, await_actions, free_lock, free_actions, lock_actions, take_actions, send_actions, actions_of}
use Rattle.hem_emit.proofs.Named.{and_both}
use Rattle.hem_emit.proofs.Writes.{leaves, flat_leaves, both_leave, value_leaves, takes_leave, sends_leave}
use Rattle.hem_emit.proofs.Spread.{all_kept, all_from, targets_far}

not_of : (b : Bool) → b ≡ false → not b ≡ true
not_of b is = rw is refl

-- a test of registers that none of an object's own passes, nor one of its children's
pub record IsOther (at : Place) (is_it : Reg → Bool) : Type 0 where
  pub fields : (i : ℕ) → is_it (field i at.object) ≡ false
  pub value : is_it (val at.object) ≡ false
  pub locks : (side : Side) (part : Part) → is_it (lock side part at.object) ≡ false
  pub entries : (k c : ℕ) → slice_get at.kids k ≡ Some c → is_it (entry c) ≡ false
  pub awaited : (k c : ℕ) → slice_get at.kids k ≡ Some c → is_it (awaits c) ≡ false

module _ (is_it : Reg → Bool) (p : Protocol) (at : Place) (me : Option ℕ) (rule : Rule) (other : IsOther at is_it) where
  abbrev entry_far : ℕ × ℕ → Bool
  entry_far k = not (is_it (entry k.1))

  abbrev awaits_far : ℕ × ℕ → Bool
  awaits_far k = not (is_it (awaits k.1))

  entries_far : list_all entry_far (kids_at at) ≡ true
  entries_far = all_from (λ c. entry_far (0, c)) 0 at.kids (λ k c kid. not_of _ (other.entries k c kid))

  awaited_far : list_all awaits_far (kids_at at) ≡ true
  awaited_far = all_from (λ c. awaits_far (0, c)) 0 at.kids (λ k c kid. not_of _ (other.awaited k c kid))

  own_left : (a : Assign) → list_all (leaves is_it) (set_own at me rule.take a) ≡ true
  own_left (assign.Field i s) = and_both _ _ (not_of _ (other.fields i)) refl
  own_left (assign.Val v) = value_leaves is_it at me rule.take v [] (put (val at.object)) (λ a. not_of _ other.value)
  own_left (assign.Me s) = refl
  own_left (assign.Targets s) = refl

  targets_left : (a : Assign) → list_all (leaves is_it) (set_targets at a) ≡ true
  targets_left (assign.Targets s) = list_all-map (leaves is_it) (λ k. where_holds (is_awaited k ∷ []) (put (entry k.1) (number s.0))) (kids_at at) ∙ entries_far
  targets_left (assign.Field i s) = refl
  targets_left (assign.Val v) = refl
  targets_left (assign.Me s) = refl

  me_left : (who : Asker) (a : Assign) → list_all (leaves is_it) (set_me at who a) ≡ true
  me_left (fixed me) (assign.Me s) =
      list_all-map (leaves is_it) (λ k. always (put (entry k.1) (number s.0))) (filter (λ k. is_named me k.0) (kids_at at)) ∙ all_kept entry_far (λ k. is_named me k.0) (kids_at at) entries_far
  me_left (holder side) (assign.Me s) = list_all-map (leaves is_it) (λ k. where_holds (held_for at side k ∷ []) (put (entry k.1) (number s.0))) (kids_at at) ∙ entries_far
  me_left (fixed me) (assign.Field i s) = refl
  me_left (fixed me) (assign.Val v) = refl
  me_left (fixed me) (assign.Targets s) = refl
  me_left (holder side) (assign.Field i s) = refl
  me_left (holder side) (assign.Val v) = refl
  me_left (holder side) (assign.Targets s) = refl

  sets_left : list_all (leaves is_it) (set_actions at me rule) ≡ true
  sets_left =
      let own = flat_map (set_own at me rule.take) rule.sets in
      let targets = flat_map (set_targets at) rule.sets in
      let mine = flat_map (set_me at (asker_of rule.take me)) rule.sets in
      both_leave is_it (own ++ targets) mine (both_leave is_it own targets (flat_leaves is_it (set_own at me rule.take) rule.sets own_left) (flat_leaves is_it (set_targets at) rule.sets targets_left))
      (flat_leaves is_it (set_me at (asker_of rule.take me)) rule.sets (me_left (asker_of rule.take me)))

  three : (a b c : Bool) → a ≡ false → b ≡ false → c ≡ false → (not a && (not b && (not c && true))) ≡ true
  three a b c first second third = rw (first, second, third) refl

  two_more : (a b c : Bool) → a ≡ false → b ≡ false → c ≡ true → (not a && (not b && c)) ≡ true
  two_more a b c first second more = rw (first, second, more) refl

  free_left : (free : Option Side) → list_all (leaves is_it) (free_actions at free) ≡ true
  free_left None = refl
  free_left (Some Up) = three _ _ _ (other.locks Up origin) (other.locks Up asked) (other.locks Up kept)
  free_left (Some Down) =
      both_leave is_it (free_lock at Down) (map (λ k. always (put (awaits k.1) (number 0))) (kids_at at))
      (three _ _ _ (other.locks Down origin) (other.locks Down asked) (other.locks Down kept))
      (list_all-map (leaves is_it) (λ k. always (put (awaits k.1) (number 0))) (kids_at at) ∙ awaited_far)

  awaits_left : (side : Side) → list_all (leaves is_it) (await_actions at (asker_of rule.take me) rule.send side) ≡ true
  awaits_left Up = refl
  awaits_left Down =
      list_all-map (leaves is_it) (λ (x : (ℕ × ℕ) × List Test). where_holds x.1 (put (awaits x.0.1) (number 1))) (targets_at at (asker_of rule.take me) rule.send)
      ∙ targets_far awaits_far at awaited_far (asker_of rule.take me) rule.send

  lock_left : (l : Option (Side × Origin)) → list_all (leaves is_it) (lock_actions p at me rule l) ≡ true
  lock_left None = refl
  lock_left (Some l) =
      two_more _ _ _ (other.locks l.0 origin) (other.locks l.0 asked)
      (both_leave is_it (with_value at me rule.take (value_in_hand p rule.take rule.send) [] (put (lock l.0 kept at.object))) (await_actions at (asker_of rule.take me) rule.send l.0)
      (value_leaves is_it at me rule.take (value_in_hand p rule.take rule.send) [] (put (lock l.0 kept at.object)) (λ a. not_of _ (other.locks l.0 kept)))
      (awaits_left l.0))

  pub others_left : list_all (leaves is_it) (actions_of p at me rule) ≡ true
  others_left =
      let takes = take_actions at me rule.take in
      let sets = set_actions at me rule in
      let free = free_actions at rule.free in
      let locks = lock_actions p at me rule rule.lock in
      let sends = send_actions p at me rule.take rule.send in
      both_leave is_it (takes ++ sets ++ free ++ locks) sends
      (both_leave is_it (takes ++ sets ++ free) locks
      (both_leave is_it (takes ++ sets) free (both_leave is_it takes sets (takes_leave is_it at me rule.take) sets_left) (free_left rule.free))
      (lock_left rule.lock))
      (sends_leave is_it p at me rule.take rule.send)
