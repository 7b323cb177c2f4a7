-- A rule that is translated names only registers and queues of its object and of the children.
use Rattle.std.proofs.Common.{◌≡◌, refl, ◌∙◌, ℕ, Bool, true, false, not, cond, ◌&&◌, List, [], ◌∷◌, ◌++◌, map, Option, Some, None}
use Rattle.std.specs.Prelude.{filter, nat_lt, slice_get}
use Rattle.std.specs.List.{list_all, flat_map}
use Rattle.std.proofs.lemmas.List.Folds.{list_all-map, list_all-append}
use Rattle.hem_base.specs.Sets.{has_bit}
use Rattle.hem_base.specs.declared.ids.Kind.{Kind}
use Rattle.hem_base.specs.declared.ids.Kind.TheVariants.{Root, Mid, Leaf}
use Rattle.hem_base.specs.declared.ids.MsgId.{MsgId}
use Rattle.hem_base.specs.declared.ids.StatusSet.{StatusSet}
use Rattle.hem_syntax.specs.declared.rule.Rule.{Rule}
use Rattle.hem_syntax.specs.declared.rule.Take.{Take}
use Rattle.hem_syntax.specs.declared.rule.Take.TheVariants as take
use Rattle.hem_syntax.specs.declared.rule.Hold.{Hold}
use Rattle.hem_syntax.specs.declared.rule.Hold.TheVariants as hold
use Rattle.hem_syntax.specs.declared.rule.Side.{Side}
use Rattle.hem_syntax.specs.declared.rule.Side.TheVariants.{Up, Down}
use Rattle.hem_syntax.specs.declared.rule.Origin.{Origin}
use Rattle.hem_syntax.specs.declared.rule.Origin.TheVariants as origins
use Rattle.hem_syntax.specs.declared.rule.Atom.{Atom}
use Rattle.hem_syntax.specs.declared.rule.Atom.TheVariants as atom
use Rattle.hem_syntax.specs.declared.rule.Value.{Value}
use Rattle.hem_syntax.specs.declared.rule.Value.TheVariants as value
use Rattle.hem_syntax.specs.declared.rule.Assign.{Assign}
use Rattle.hem_syntax.specs.declared.rule.Assign.TheVariants as assign
use Rattle.hem_syntax.specs.declared.rule.SendTo.{SendTo}
use Rattle.hem_syntax.specs.declared.rule.SendTo.TheVariants as send
use Rattle.hem_syntax.specs.Protocol.{Protocol, has_class, is_request, is_up_rsp}
use Rattle.hem_syntax.specs.Lawful.{Counts, has_field, has_atom, has_assign}
use Rattle.hem_system.specs.declared.lane.Lane.TheVariants as lane
use Rattle.hem_tree.specs.Tree.{below}
use Rattle.hem_module.specs.Module.{number, read, head_value, equals, has_head, put, deq, enq}
use Rattle.hem_rows.proofs.Choices.{both}
use Rattle.hem_emit.specs.Names.{Part, origin, asked, kept, Reg, field, val, lock, entry, awaits, Queue}
use Rattle.hem_emit.specs.Place.{Test, Clause, Amount, Deed, Action, Place, kids_at, others_at, is_named, Asker, fixed, holder, asker_of, origin_at}
use Rattle.hem_emit.specs.Clauses.{is_one_of, entry_in, held_for, not_held_for, requests_of, parent_queue, responses_of, take_clauses, child_need, need_clauses, me_clauses, others_all, others_any, kids_any, asked_clauses, atom_clauses, send_clauses, clauses_of}
use Rattle.hem_emit.specs.Actions.{always, where_holds, is_awaited, not_awaited, is_first_awaited, amounts_of, with_value, take_actions, set_own, set_targets, set_me, set_actions, free_lock, free_actions, origin_amount, id_in_hand, value_in_hand, targets_at, await_actions, lock_actions, child_queue, requester_queues, parent_lane, send_actions, actions_of}
use Rattle.hem_emit.specs.Emit.{rule_at}
use Rattle.hem_emit.specs.Numbering.{test_known, amount_known, deed_known, action_known, rule_known}
use Rattle.hem_emit.proofs.Tests.{list_all-flat_map}
use Rattle.hem_emit.proofs.Named.{and_both}
use Rattle.hem_emit.proofs.Writes.{all_true}
use Rattle.hem_emit.proofs.Spread.{all_imply, all_kept, all_from}

-- what a rule may name is there: registers and queues of its object, and of each child
pub record AllThere (has : Reg → Bool) (hasq : Queue → Bool) (n : Counts) (at : Place) (me : Option ℕ) (tk : Take) (to : SendTo) : Type 0 where
  pub fields : (i : ℕ) → has_field n i ≡ true → has (field i at.object) ≡ true
  pub value : has (val at.object) ≡ true
  pub locks : (side : Side) (part : Part) → has (lock side part at.object) ≡ true
  pub entries : (k c : ℕ) → slice_get at.kids k ≡ Some c → has (entry c) ≡ true
  pub awaited : (k c : ℕ) → slice_get at.kids k ≡ Some c → has (awaits c) ≡ true
  pub responses : (k c : ℕ) → slice_get at.kids k ≡ Some c → hasq (responses_of (k, c)) ≡ true
  pub downs : (k c : ℕ) → slice_get at.kids k ≡ Some c → hasq (child_queue (k, c)) ≡ true
  pub requests : (id : MsgId) → tk ≡ take.Me id → hasq (requests_of at me) ≡ true
  pub parent : (id : MsgId) → tk ≡ take.Parent id → hasq (parent_queue at) ≡ true
  pub up_requests : (id : MsgId) (v : Value) → to ≡ send.Parent id v → hasq (record { object = at.object; lane = lane.UpRequests }) ≡ true
  pub up_responses : (id : MsgId) (v : Value) → to ≡ send.Parent id v → hasq (record { object = at.object; lane = lane.UpResponses }) ≡ true
  pub answers : at.kind ≡ Leaf → hasq (record { object = at.object; lane = lane.Answers }) ≡ true

module _ (has : Reg → Bool) (hasq : Queue → Bool) (n : Counts) (p : Protocol) (at : Place) (me : Option ℕ) (tk : Take) (to : SendTo) (there : AllThere has hasq n at me tk to) where
  abbrev is_test : Test → Bool
  is_test = test_known has hasq

  abbrev is_clause : Clause → Bool
  is_clause clause = list_all is_test clause

  abbrev is_action : Action → Bool
  is_action = action_known has hasq

  -- what is there of a child
  abbrev kid_there : ℕ × ℕ → Bool
  kid_there k = (has (entry k.1) && has (awaits k.1)) && (hasq (responses_of k) && hasq (child_queue k))

  kids_there : list_all kid_there (kids_at at) ≡ true
  kids_there =
      all_from (λ c. kid_there (0, c)) 0 at.kids
      (λ k c kid. and_both _ _ (and_both _ _ (there.entries k c kid) (there.awaited k c kid)) (and_both _ _ (there.responses k c kid) (there.downs k c kid)))

  entry_there : (k : ℕ × ℕ) → kid_there k ≡ true → has (entry k.1) ≡ true
  entry_there k is = (both _ _ (both _ _ is).0).0

  awaits_there : (k : ℕ × ℕ) → kid_there k ≡ true → has (awaits k.1) ≡ true
  awaits_there k is = (both (has (entry k.1)) _ (both _ _ is).0).1

  responses_there : (k : ℕ × ℕ) → kid_there k ≡ true → hasq (responses_of k) ≡ true
  responses_there k is = (both _ _ (both (has (entry k.1) && has (awaits k.1)) _ is).1).0

  down_there : (k : ℕ × ℕ) → kid_there k ≡ true → hasq (child_queue k) ≡ true
  down_there k is = (both (hasq (responses_of k)) _ (both (has (entry k.1) && has (awaits k.1)) _ is).1).1

  each_kid : (g : ℕ × ℕ → Bool) → ((k : ℕ × ℕ) → kid_there k ≡ true → g k ≡ true) → list_all g (kids_at at) ≡ true
  each_kid g each = all_imply kid_there g (kids_at at) each kids_there

  some_kids : (keep : ℕ × ℕ → Bool) (g : ℕ × ℕ → Bool) → ((k : ℕ × ℕ) → kid_there k ≡ true → g k ≡ true) → list_all g (filter keep (kids_at at)) ≡ true
  some_kids keep g each = all_imply kid_there g (filter keep (kids_at at)) each (all_kept kid_there keep (kids_at at) kids_there)

  each_mapped : {B : Type 0} (g : B → Bool) (f : ℕ × ℕ → B) → ((k : ℕ × ℕ) → kid_there k ≡ true → g (f k) ≡ true) → list_all g (map f (kids_at at)) ≡ true
  each_mapped g f each = list_all-map g f (kids_at at) ∙ each_kid (λ k. g (f k)) each

  some_mapped : {B : Type 0} (keep : ℕ × ℕ → Bool) (g : B → Bool) (f : ℕ × ℕ → B) → ((k : ℕ × ℕ) → kid_there k ≡ true → g (f k) ≡ true) → list_all g (map f (filter keep (kids_at at))) ≡ true
  some_mapped keep g f each = list_all-map g f (filter keep (kids_at at)) ∙ some_kids keep (λ k. g (f k)) each

  each_spread : {B : Type 0} (g : B → Bool) (f : ℕ × ℕ → List B) → ((k : ℕ × ℕ) → kid_there k ≡ true → list_all g (f k) ≡ true) → list_all g (flat_map f (kids_at at)) ≡ true
  each_spread g f each = list_all-flat_map g f (kids_at at) ∙ each_kid (λ k. list_all g (f k)) each

  some_spread : {B : Type 0} (keep : ℕ × ℕ → Bool) (g : B → Bool) (f : ℕ × ℕ → List B) → ((k : ℕ × ℕ) → kid_there k ≡ true → list_all g (f k) ≡ true) → list_all g (flat_map f (filter keep (kids_at at))) ≡ true
  some_spread keep g f each = list_all-flat_map g f (filter keep (kids_at at)) ∙ some_kids keep (λ k. list_all g (f k)) each

  set_tests : (set : StatusSet) (r : Reg) → has r ≡ true → list_all is_test (is_one_of at set r) ≡ true
  set_tests set r is = list_all-map is_test (λ s. equals r s) (filter (has_bit set.0) (below at.statuses)) ∙ all_true (λ s. has r) (filter (has_bit set.0) (below at.statuses)) (λ s. is)

  entry_tests : (set : StatusSet) (k : ℕ × ℕ) → kid_there k ≡ true → list_all is_test (entry_in at set k) ≡ true
  entry_tests set k is = set_tests set (entry k.1) (entry_there k is)

  origin_there : (side : Side) → has (origin_at at side) ≡ true
  origin_there side = there.locks side origin

  -- what is alone
  one : {b : Bool} → b ≡ true → (b && true) ≡ true
  one is = and_both _ _ is refl

  -- the clauses
  take_known : (t : Take) → tk ≡ t → list_all is_clause (take_clauses at me t) ≡ true
  take_known (take.Me id) is = one (one (there.requests id is))
  take_known (take.Parent id) is = one (one (there.parent id is))
  take_known (take.Kids id) is =
      list_all-append is_clause (map (λ k. let c : Clause = equals (awaits k.1) 0 ∷ has_head (responses_of k) id.0 ∷ [] in c) (kids_at at)) _
      ∙ and_both _ _
      (each_mapped is_clause (λ k. equals (awaits k.1) 0 ∷ has_head (responses_of k) id.0 ∷ []) (λ k at. and_both _ _ (awaits_there k at) (and_both _ _ (responses_there k at) refl)))
      (one (each_mapped is_test (λ k. equals (awaits k.1) 1) awaits_there))
  take_known take.Nothing is = refl

  child_need_known : (kind : Kind) (side : Side) → is_clause (child_need kind at side) ≡ true
  child_need_known Leaf side = one (origin_there side)
  child_need_known Root side = each_mapped is_test (held_for at side) (λ k is. origin_there side)
  child_need_known Mid side = each_mapped is_test (held_for at side) (λ k is. origin_there side)

  need_known : (side : Side) (h : Hold) → list_all is_clause (need_clauses at side h) ≡ true
  need_known side hold.Any = refl
  need_known side hold.Free = one (one (origin_there side))
  need_known side hold.Own = one (one (origin_there side))
  need_known side hold.Parent = one (one (origin_there side))
  need_known side hold.Child = one (child_need_known at.kind side)

  kids_any_known : (set : StatusSet) → list_all is_clause (kids_any at set) ≡ true
  kids_any_known set = one (each_spread is_test (entry_in at set) (entry_tests set))

  others_any_known : (who : Asker) (set : StatusSet) → list_all is_clause (others_any at who set) ≡ true
  others_any_known (fixed you) set = one (some_spread (λ k. not (is_named you k.0)) is_test (entry_in at set) (entry_tests set))
  others_any_known (holder side) set =
      each_mapped is_clause (λ k. not_held_for at side k ∷ flat_map (entry_in at set) (others_at at (Some k.0)))
      (λ k is. and_both _ _ (origin_there side) (some_spread (λ j. not (is_named (Some k.0) j.0)) is_test (entry_in at set) (entry_tests set)))

  others_all_known : (who : Asker) (set : StatusSet) → list_all is_clause (others_all at who set) ≡ true
  others_all_known (fixed you) set = some_mapped (λ k. not (is_named you k.0)) is_clause (entry_in at set) (entry_tests set)
  others_all_known (holder side) set = each_mapped is_clause (λ k. held_for at side k ∷ entry_in at set k) (λ k is. and_both _ _ (origin_there side) (entry_tests set k is))

  me_known : (who : Asker) (set : StatusSet) → list_all is_clause (me_clauses at who set) ≡ true
  me_known (fixed you) set = one (some_spread (λ k. is_named you k.0) is_test (entry_in at set) (entry_tests set))
  me_known (holder side) set = each_mapped is_clause (λ k. not_held_for at side k ∷ entry_in at set k) (λ k is. and_both _ _ (origin_there side) (entry_tests set k is))

  asked_known : (who : Asker) (id : ℕ) → list_all is_clause (asked_clauses at who id) ≡ true
  asked_known (fixed you) id = refl
  asked_known (holder side) id = one (one (there.locks side asked))

  atom_known : (who : Asker) (a : Atom) → has_atom n a ≡ true → list_all is_clause (atom_clauses at who a) ≡ true
  atom_known who (atom.Field i set) is = one (set_tests set (field i at.object) (there.fields i (both _ _ is).0))
  atom_known who (atom.Me set) is = me_known who set
  atom_known who (atom.KidsAll set) is = each_mapped is_clause (entry_in at set) (entry_tests set)
  atom_known who (atom.KidsAny set) is = kids_any_known set
  atom_known who (atom.OthersAll set) is = others_all_known who set
  atom_known who (atom.OthersAny set) is = others_any_known who set
  atom_known who (atom.Asked id) is = asked_known who id.0

  send_clauses_known : (who : Asker) (t : SendTo) → list_all is_clause (send_clauses at who t) ≡ true
  send_clauses_known who (send.Kids set id v) = kids_any_known set
  send_clauses_known who (send.Others set id v) = others_any_known who set
  send_clauses_known who send.Nothing = refl
  send_clauses_known who (send.Me id v) = refl
  send_clauses_known who (send.Parent id v) = refl

  both_known : (xs ys : List Clause) → list_all is_clause xs ≡ true → list_all is_clause ys ≡ true → list_all is_clause (xs ++ ys) ≡ true
  both_known xs ys first other = list_all-append is_clause xs ys ∙ and_both _ _ first other

  guard_known : (who : Asker) (guard : List Atom) → list_all (has_atom n) guard ≡ true → list_all is_clause (flat_map (atom_clauses at who) guard) ≡ true
  guard_known who guard all = list_all-flat_map is_clause (atom_clauses at who) guard ∙ all_imply (has_atom n) (λ a. list_all is_clause (atom_clauses at who a)) guard (atom_known who) all

  pub clauses_known : (rule : Rule) → tk ≡ rule.take → list_all (has_atom n) rule.guard ≡ true → list_all is_clause (clauses_of at me rule) ≡ true
  clauses_known rule is guard =
      let who = asker_of rule.take me in
      let takes = take_clauses at me rule.take in
      let up = need_clauses at Up rule.need.up in
      let down = need_clauses at Down rule.need.down in
      let guards = flat_map (atom_clauses at who) rule.guard in
      both_known (takes ++ up ++ down ++ guards) (send_clauses at who rule.send)
      (both_known (takes ++ up ++ down) guards (both_known (takes ++ up) down (both_known takes up (take_known rule.take is) (need_known Up rule.need.up)) (need_known Down rule.need.down)) (guard_known who rule.guard guard))
      (send_clauses_known who rule.send)

  -- the actions
  always_known : (d : Deed) → deed_known has hasq d ≡ true → list_all is_action (always d ∷ []) ≡ true
  always_known d is = one is

  action_there : (tests : List Test) (d : Deed) → list_all is_test tests ≡ true → deed_known has hasq d ≡ true → is_action (where_holds tests d) ≡ true
  action_there tests d tests_there is = and_both _ _ tests_there is

  acts_known : (xs ys : List Action) → list_all is_action xs ≡ true → list_all is_action ys ≡ true → list_all is_action (xs ++ ys) ≡ true
  acts_known xs ys first other = list_all-append is_action xs ys ∙ and_both _ _ first other

  abbrev is_amount : List Test × Amount → Bool
  is_amount a = list_all is_test a.0 && amount_known has hasq a.1

  first_awaited_known : (k : ℕ × ℕ) → kid_there k ≡ true → list_all is_test (is_first_awaited at k) ≡ true
  first_awaited_known k is = and_both _ _ (awaits_there k is) (some_mapped (λ b. nat_lt b.0 k.0) is_test not_awaited awaits_there)

  amounts_known : (t : Take) → tk ≡ t → (v : Value) → list_all is_amount (amounts_of at me t v) ≡ true
  amounts_known t is value.Val = one there.value
  amounts_known (take.Me id) is value.Msg = one (there.requests id is)
  amounts_known (take.Parent id) is value.Msg = one (there.parent id is)
  amounts_known (take.Kids id) is value.Msg = refl
  amounts_known take.Nothing is value.Msg = refl
  amounts_known (take.Parent id) is value.Kept = one (there.locks Up kept)
  amounts_known (take.Kids id) is value.Kept = one (there.locks Down kept)
  amounts_known (take.Me id) is value.Kept = refl
  amounts_known take.Nothing is value.Kept = refl
  amounts_known t is value.Rs = each_mapped is_amount (λ k. (is_first_awaited at k, head_value (responses_of k))) (λ k at. and_both _ _ (first_awaited_known k at) (responses_there k at))
  amounts_known t is value.Zero = refl

  value_known : (t : Take) → tk ≡ t → (v : Value) (tests : List Test) (deed : Amount → Deed) → list_all is_test tests ≡ true → ((a : Amount) → amount_known has hasq a ≡ true → deed_known has hasq (deed a) ≡ true) → list_all is_action (with_value at me t v tests deed) ≡ true
  value_known t is v tests deed tests_there each =
      list_all-map is_action (λ (a : List Test × Amount). where_holds (tests ++ a.0) (deed a.1)) (amounts_of at me t v)
      ∙ all_imply is_amount (λ a. is_action (where_holds (tests ++ a.0) (deed a.1))) (amounts_of at me t v)
      (λ a ok. let parts = both (list_all is_test a.0) _ ok in action_there (tests ++ a.0) (deed a.1) (list_all-append is_test tests a.0 ∙ and_both _ _ tests_there parts.0) (each a.1 parts.1))
      (amounts_known t is v)

  takes_known : (t : Take) → tk ≡ t → list_all is_action (take_actions at me t) ≡ true
  takes_known (take.Me id) is = one (there.requests id is)
  takes_known (take.Parent id) is = one (there.parent id is)
  takes_known (take.Kids id) is = each_mapped is_action (λ k. where_holds (is_awaited k ∷ []) (deq (responses_of k))) (λ k at. and_both _ _ (one (awaits_there k at)) (responses_there k at))
  takes_known take.Nothing is = refl

  put_known : (r : Reg) → has r ≡ true → (a : Amount) → amount_known has hasq a ≡ true → deed_known has hasq (put r a) ≡ true
  put_known r is a ok = and_both _ _ is ok

  own_known : (t : Take) → tk ≡ t → (a : Assign) → has_assign n a ≡ true → list_all is_action (set_own at me t a) ≡ true
  own_known t is (assign.Field i s) ok = one (and_both _ _ (there.fields i (both _ _ ok).0) refl)
  own_known t is (assign.Val v) ok = value_known t is v [] (put (val at.object)) refl (put_known (val at.object) there.value)
  own_known t is (assign.Me s) ok = refl
  own_known t is (assign.Targets s) ok = refl

  entry_put : (k : ℕ × ℕ) (s : ℕ) → kid_there k ≡ true → deed_known has hasq (put (entry k.1) (number s)) ≡ true
  entry_put k s is = and_both _ _ (entry_there k is) refl

  targets_set : (a : Assign) → list_all is_action (set_targets at a) ≡ true
  targets_set (assign.Targets s) = each_mapped is_action (λ k. where_holds (is_awaited k ∷ []) (put (entry k.1) (number s.0))) (λ k at. and_both _ _ (one (awaits_there k at)) (entry_put k s.0 at))
  targets_set (assign.Field i s) = refl
  targets_set (assign.Val v) = refl
  targets_set (assign.Me s) = refl

  me_set : (who : Asker) (a : Assign) → list_all is_action (set_me at who a) ≡ true
  me_set (fixed you) (assign.Me s) = some_mapped (λ k. is_named you k.0) is_action (λ k. always (put (entry k.1) (number s.0))) (λ k at. entry_put k s.0 at)
  me_set (holder side) (assign.Me s) = each_mapped is_action (λ k. where_holds (held_for at side k ∷ []) (put (entry k.1) (number s.0))) (λ k at. and_both _ _ (one (origin_there side)) (entry_put k s.0 at))
  me_set (fixed you) (assign.Field i s) = refl
  me_set (fixed you) (assign.Val v) = refl
  me_set (fixed you) (assign.Targets s) = refl
  me_set (holder side) (assign.Field i s) = refl
  me_set (holder side) (assign.Val v) = refl
  me_set (holder side) (assign.Targets s) = refl

  sets_known : (rule : Rule) → tk ≡ rule.take → list_all (has_assign n) rule.sets ≡ true → list_all is_action (set_actions at me rule) ≡ true
  sets_known rule is all =
      let own = flat_map (set_own at me rule.take) rule.sets in
      let targets = flat_map (set_targets at) rule.sets in
      let mine = flat_map (set_me at (asker_of rule.take me)) rule.sets in
      acts_known (own ++ targets) mine
      (acts_known own targets
      (list_all-flat_map is_action (set_own at me rule.take) rule.sets ∙ all_imply (has_assign n) (λ a. list_all is_action (set_own at me rule.take a)) rule.sets (own_known rule.take is) all)
      (list_all-flat_map is_action (set_targets at) rule.sets ∙ all_true (λ a. list_all is_action (set_targets at a)) rule.sets targets_set))
      (list_all-flat_map is_action (set_me at (asker_of rule.take me)) rule.sets ∙ all_true (λ a. list_all is_action (set_me at (asker_of rule.take me) a)) rule.sets (me_set (asker_of rule.take me)))

  lock_put : (side : Side) (part_is : Part) (a : Amount) → amount_known has hasq a ≡ true → is_action (always (put (lock side part_is at.object) a)) ≡ true
  lock_put side part_is a ok = and_both _ _ (there.locks side part_is) ok

  lock_freed : (side : Side) → list_all is_action (free_lock at side) ≡ true
  lock_freed side = and_both _ _ (lock_put side origin (number 0) refl) (and_both _ _ (lock_put side asked (number 0) refl) (one (lock_put side kept (number 0) refl)))

  free_known : (free : Option Side) → list_all is_action (free_actions at free) ≡ true
  free_known None = refl
  free_known (Some Up) = lock_freed Up
  free_known (Some Down) =
      acts_known (free_lock at Down) (map (λ k. always (put (awaits k.1) (number 0))) (kids_at at)) (lock_freed Down)
      (each_mapped is_action (λ k. always (put (awaits k.1) (number 0))) (λ k at. and_both _ _ (awaits_there k at) refl))

  origin_known : (who : Asker) (o : Origin) → amount_known has hasq (origin_amount at who o) ≡ true
  origin_known who origins.Own = refl
  origin_known who origins.Parent = refl
  origin_known (fixed None) origins.Child = refl
  origin_known (fixed (Some k)) origins.Child = refl
  origin_known (holder side) origins.Child = origin_there side

  id_known : (t : Take) (s : SendTo) → amount_known has hasq (id_in_hand p at t s) ≡ true
  id_known (take.Me id) s = refl
  id_known (take.Parent id) s = by_class (has_class p id is_request)
    where
      by_class : (b : Bool) → amount_known has hasq (cond b (number id.0) (read (lock Up asked at.object))) ≡ true
      by_class true = refl
      by_class false = there.locks Up asked
  id_known (take.Kids id) s = there.locks Down asked
  id_known take.Nothing s = refl

  -- a child that may be sent to, with its tests
  abbrev is_target : (ℕ × ℕ) × List Test → Bool
  is_target x = kid_there x.0 && list_all is_test x.1

  entries_known : (more : ℕ × ℕ → List Test) → ((k : ℕ × ℕ) → kid_there k ≡ true → list_all is_test (more k) ≡ true) → (set : StatusSet) (k : ℕ × ℕ) → kid_there k ≡ true → list_all is_target (map (λ test. (k, more k ++ test ∷ [])) (entry_in at set k)) ≡ true
  entries_known more fine set k is =
      list_all-map is_target (λ test. (k, more k ++ test ∷ [])) (entry_in at set k)
      ∙ all_imply is_test (λ test. kid_there k && list_all is_test (more k ++ test ∷ [])) (entry_in at set k) (λ test ok. and_both _ _ is (list_all-append is_test (more k) (test ∷ []) ∙ and_both _ _ (fine k is) (one ok))) (entry_tests set k is)

  targets_known : (who : Asker) (s : SendTo) → list_all is_target (targets_at at who s) ≡ true
  targets_known (fixed you) (send.Kids set id v) = each_spread is_target (λ k. map (λ test. (k, test ∷ [])) (entry_in at set k)) (entries_known (λ k. []) (λ k is. refl) set)
  targets_known (holder side) (send.Kids set id v) = each_spread is_target (λ k. map (λ test. (k, test ∷ [])) (entry_in at set k)) (entries_known (λ k. []) (λ k is. refl) set)
  targets_known (fixed you) (send.Others set id v) =
      some_spread (λ k. not (is_named you k.0)) is_target (λ k. map (λ test. (k, test ∷ [])) (entry_in at set k)) (entries_known (λ k. []) (λ k is. refl) set)
  targets_known (holder side) (send.Others set id v) =
      each_spread is_target (λ k. map (λ test. (k, not_held_for at side k ∷ test ∷ [])) (entry_in at set k)) (entries_known (λ k. not_held_for at side k ∷ []) (λ k is. one (origin_there side)) set)
  targets_known (fixed you) send.Nothing = refl
  targets_known (fixed you) (send.Me id v) = refl
  targets_known (fixed you) (send.Parent id v) = refl
  targets_known (holder side) send.Nothing = refl
  targets_known (holder side) (send.Me id v) = refl
  targets_known (holder side) (send.Parent id v) = refl

  awaits_known : (who : Asker) (s : SendTo) (side : Side) → list_all is_action (await_actions at who s side) ≡ true
  awaits_known who s Up = refl
  awaits_known who s Down =
      list_all-map is_action (λ (x : (ℕ × ℕ) × List Test). where_holds x.1 (put (awaits x.0.1) (number 1))) (targets_at at who s)
      ∙ all_imply is_target (λ x. is_action (where_holds x.1 (put (awaits x.0.1) (number 1)))) (targets_at at who s)
      (λ x ok. let parts = both (kid_there x.0) _ ok in action_there x.1 (put (awaits x.0.1) (number 1)) parts.1 (and_both _ _ (awaits_there x.0 parts.0) refl))
      (targets_known who s)

  lock_known : (rule : Rule) → tk ≡ rule.take → (l : Option (Side × Origin)) → list_all is_action (lock_actions p at me rule l) ≡ true
  lock_known rule is None = refl
  lock_known rule is (Some l) =
      and_both _ _ (lock_put l.0 origin _ (origin_known (asker_of rule.take me) l.1))
      (and_both _ _ (lock_put l.0 asked _ (id_known rule.take rule.send))
      (acts_known (with_value at me rule.take (value_in_hand p rule.take rule.send) [] (put (lock l.0 kept at.object))) (await_actions at (asker_of rule.take me) rule.send l.0)
      (value_known rule.take is (value_in_hand p rule.take rule.send) [] (put (lock l.0 kept at.object)) refl (put_known (lock l.0 kept at.object) (there.locks l.0 kept)))
      (awaits_known (asker_of rule.take me) rule.send l.0)))

  -- a queue that may be the requester's, with its tests
  abbrev is_way : List Test × Queue → Bool
  is_way w = list_all is_test w.0 && hasq w.1

  requesters_known : (kind : Kind) → at.kind ≡ kind → (who : Asker) → list_all is_way (requester_queues kind at who) ≡ true
  requesters_known Leaf is who = one (there.answers is)
  requesters_known Root is (fixed you) = some_mapped (λ k. is_named you k.0) is_way (λ k. ([], child_queue k)) down_there
  requesters_known Mid is (fixed you) = some_mapped (λ k. is_named you k.0) is_way (λ k. ([], child_queue k)) down_there
  requesters_known Root is (holder side) = each_mapped is_way (λ k. (held_for at side k ∷ [], child_queue k)) (λ k at. and_both _ _ (one (origin_there side)) (down_there k at))
  requesters_known Mid is (holder side) = each_mapped is_way (λ k. (held_for at side k ∷ [], child_queue k)) (λ k at. and_both _ _ (one (origin_there side)) (down_there k at))

  enq_known : (q : Queue) (id : ℕ) → hasq q ≡ true → (a : Amount) → amount_known has hasq a ≡ true → deed_known has hasq (enq q id a) ≡ true
  enq_known q id is a ok = and_both _ _ is ok

  to_targets : (t : Take) → tk ≡ t → (v : Value) (id : ℕ) (xs : List ((ℕ × ℕ) × List Test)) → list_all is_target xs ≡ true → list_all is_action (flat_map (λ (x : (ℕ × ℕ) × List Test). with_value at me t v x.1 (enq (child_queue x.0) id)) xs) ≡ true
  to_targets t is v id xs all =
      list_all-flat_map is_action (λ (x : (ℕ × ℕ) × List Test). with_value at me t v x.1 (enq (child_queue x.0) id)) xs
      ∙ all_imply is_target (λ x. list_all is_action (with_value at me t v x.1 (enq (child_queue x.0) id))) xs
      (λ x ok. let parts = both (kid_there x.0) _ ok in value_known t is v x.1 (enq (child_queue x.0) id) parts.1 (enq_known (child_queue x.0) id (down_there x.0 parts.0)))
      all

  parent_lane_there : (id : MsgId) (v : Value) → to ≡ send.Parent id v → hasq (parent_lane p at id) ≡ true
  parent_lane_there id v is = by_class (has_class p id is_up_rsp)
    where
      by_class : (b : Bool) → hasq (record { object = at.object; lane = cond b lane.UpResponses lane.UpRequests }) ≡ true
      by_class true = there.up_responses id v is
      by_class false = there.up_requests id v is

  sends_known : (t : Take) → tk ≡ t → (s : SendTo) → to ≡ s → list_all is_action (send_actions p at me t s) ≡ true
  sends_known t is send.Nothing sends = refl
  sends_known t is (send.Me id v) sends =
      list_all-flat_map is_action (λ (w : List Test × Queue). with_value at me t v w.0 (enq w.1 id.0)) (requester_queues at.kind at (asker_of t me))
      ∙ all_imply is_way (λ w. list_all is_action (with_value at me t v w.0 (enq w.1 id.0))) (requester_queues at.kind at (asker_of t me))
      (λ w ok. let parts = both (list_all is_test w.0) _ ok in value_known t is v w.0 (enq w.1 id.0) parts.0 (enq_known w.1 id.0 parts.1))
      (requesters_known at.kind refl (asker_of t me))
  sends_known t is (send.Parent id v) sends = value_known t is v [] (enq (parent_lane p at id) id.0) refl (enq_known (parent_lane p at id) id.0 (parent_lane_there id v sends))
  sends_known t is (send.Kids set id v) sends = to_targets t is v id.0 (targets_at at (asker_of t me) (send.Kids set id v)) (targets_known (asker_of t me) (send.Kids set id v))
  sends_known t is (send.Others set id v) sends = to_targets t is v id.0 (targets_at at (asker_of t me) (send.Others set id v)) (targets_known (asker_of t me) (send.Others set id v))

  pub actions_known : (rule : Rule) → tk ≡ rule.take → to ≡ rule.send → list_all (has_assign n) rule.sets ≡ true → list_all is_action (actions_of p at me rule) ≡ true
  actions_known rule is sends sets =
      let takes = take_actions at me rule.take in
      let assigns = set_actions at me rule in
      let free = free_actions at rule.free in
      let locks = lock_actions p at me rule rule.lock in
      acts_known (takes ++ assigns ++ free ++ locks) (send_actions p at me rule.take rule.send)
      (acts_known (takes ++ assigns ++ free) locks
      (acts_known (takes ++ assigns) free (acts_known takes assigns (takes_known rule.take is) (sets_known rule is sets)) (free_known rule.free))
      (lock_known rule is rule.lock))
      (sends_known rule.take is rule.send sends)

  pub rule_is_known : (rule : Rule) → tk ≡ rule.take → to ≡ rule.send → list_all (has_atom n) rule.guard ≡ true → list_all (has_assign n) rule.sets ≡ true → rule_known has hasq (rule_at p at rule me) ≡ true
  rule_is_known rule is sends guard sets = and_both _ _ (clauses_known rule is guard) (actions_known rule is sends sets)
