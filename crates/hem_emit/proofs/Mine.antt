-- The actions append to an object's own lists what a firing sends there.
use Rattle.std.proofs.Common.{◌≡◌, refl, ap, sym, ◌∙◌, ℕ, Bool, true, false, not, cond, ◌&&◌, List, [], ◌∷◌, ◌++◌, length, Option, Some, None, arith, map}
use Rattle.std.specs.Prelude.{◌==◌, is_some, unwrap_or, filter}
use Rattle.std.specs.List.{list_all}
use Rattle.std.specs.Option.{option_map_or}
use Rattle.hem_base.specs.declared.ids.Kind.{Kind}
use Rattle.hem_base.specs.declared.ids.Kind.TheVariants.{Root, Mid, Leaf}
use Rattle.hem_syntax.specs.declared.rule.SendTo.{SendTo}
use Rattle.hem_syntax.specs.declared.rule.SendTo.TheVariants as send
use Rattle.hem_syntax.specs.declared.rule.Take.{Take}
use Rattle.hem_template.specs.declared.template_name.TemplateName.{TemplateName}
use Rattle.hem_object.specs.declared.state.By.{By}
use Rattle.hem_object.specs.declared.state.By.TheVariants.{Processor, Kid}
use Rattle.hem_syntax.specs.Protocol.{Protocol}
use Rattle.hem_object.specs.Local.{Local}
use Rattle.hem_object.specs.Guard.{value_of, has_requester}
use Rattle.hem_template.specs.Template.{row_of, may_name_requester, is_leaf, value_fits, value_sent}
use Rattle.hem_syntax.specs.Protocol.{has_class, is_up_rsp}
use Rattle.hem_object.specs.Targets.{targets_of}
use Rattle.hem_fire.specs.Heads.{Heads}
use Rattle.hem_fire.specs.Sends.{message_of, no_message, to_requester, goes_to}
use Rattle.hem_fire.specs.declared.outs.To.TheVariants as to
use Rattle.hem_fire.specs.View.{view_of, asker, kid_asker, requester}
use Rattle.hem_system.specs.declared.lane.Lane.{Lane}
use Rattle.hem_system.specs.declared.lane.Lane.TheVariants.{UpRequests, UpResponses, Down, Requests, Answers}
use Rattle.hem_module.specs.Module.{Item}
use Rattle.hem_module.specs.Step.{Held, test_holds, appended}
use Rattle.hem_rows.specs.Rows.{IsSending}
use Rattle.hem_emit.specs.Names.{Reg, Queue, same_lane, same_queue}
use Rattle.hem_emit.specs.Place.{Test, Place, Asker, fixed, holder, asker_of, kids_at, is_named}
use Rattle.hem_emit.specs.Actions.{targets_at, requester_queues, child_queue, parent_lane, send_actions}
use Rattle.hem_emit.specs.Image.{item_of, lock_at}
use Rattle.hem_emit.specs.Sent.{to_own}
use Rattle.hem_emit.proofs.Tests.{same_number}
use Rattle.hem_emit.proofs.Entries.{Sees}
use Rattle.hem_emit.proofs.Faced.{Faced}
use Rattle.hem_emit.proofs.Named.{and_both, value_is_there}
use Rattle.hem_emit.proofs.Sends.{answer_asks, sending_me}
use Rattle.hem_emit.proofs.Picked.{picked, one_if, picked-map}
use Rattle.hem_emit.proofs.Appended.{value_appended, values_appended}
use Rattle.hem_emit.proofs.Reached.{and_false, never_picked}
use Rattle.hem_syntax.specs.declared.rule.Take.TheVariants as take
use Rattle.hem_syntax.specs.declared.rule.Side.{Side}
use Rattle.hem_syntax.specs.declared.rule.Side.TheVariants as side
use Rattle.hem_object.specs.declared.state.By.TheVariants as by
use Rattle.hem_object.specs.declared.state.Lock.{Lock}
use Rattle.hem_fire.specs.OneFire.{me_fits}
use Rattle.hem_base.specs.declared.ids.KidSet.{KidSet}
use Rattle.hem_emit.specs.Clauses.{held_for}
use Rattle.hem_emit.proofs.Places.{origin_child}
use Rattle.hem_emit.proofs.Sent.{message_item, parent_goes, leaf_is}

-- what comes to no list of an object's own
none_own : (l : Lane) (m : Item) (j : ℕ) → to_own l (to.Kid j) m ≡ []
none_own UpRequests m j = refl
none_own UpResponses m j = refl
none_own Down m j = refl
none_own Requests m j = refl
none_own Answers m j = refl

none_to : (l : Lane) (m : Item) (set : KidSet) → to_own l (to.Kids set) m ≡ []
none_to UpRequests m set = refl
none_to UpResponses m set = refl
none_to Down m set = refl
none_to Requests m set = refl
none_to Answers m set = refl

nobody_to : (l : Lane) (m : Item) → [] ≡ to_own l to.Nobody m
nobody_to UpRequests m = refl
nobody_to UpResponses m = refl
nobody_to Down m = refl
nobody_to Requests m = refl
nobody_to Answers m = refl

answered : (l : Lane) (m : Item) → one_if (same_lane l Answers) m ++ [] ≡ to_own l to.Answer m
answered UpRequests m = refl
answered UpResponses m = refl
answered Down m = refl
answered Requests m = refl
answered Answers m = refl

up_sent : (m : Item) (l : Lane) → same_lane l Down ≡ false → (b : Bool) → one_if (same_lane l (cond b UpResponses UpRequests)) m ≡ to_own l (cond b to.UpResponse to.UpRequest) m
up_sent m UpRequests own true = refl
up_sent m UpRequests own false = refl
up_sent m UpResponses own true = refl
up_sent m UpResponses own false = refl
up_sent m Down own b = cc
up_sent m Requests own true = refl
up_sent m Requests own false = refl
up_sent m Answers own true = refl
up_sent m Answers own false = refl

-- a leaf's requester is the processor
names_none : (kind : Kind) (tk : Take) (me : Option ℕ) (n : ℕ) → kind ≡ Leaf → me_fits kind tk me n ≡ true → me ≡ None
names_none Leaf tk None n leaf fits = refl
names_none Leaf tk (Some c) n leaf fits = cc
names_none Root tk me n leaf fits = cc
names_none Mid tk me n leaf fits = cc

leaf_asker : (l : Lock) (by : By) → l.by ≡ by → ((j : ℕ) → by ≡ Kid j → ⊥) → is_some (asker (Some l)) ≡ true → asker (Some l) ≡ Some Processor
leaf_asker l Processor is none there = rw is refl
leaf_asker l (Kid j) is none there = absurd (none j refl)
leaf_asker l by.Parent is none there = let bad = rw is at there in cc
leaf_asker l by.Own is none there = let bad = rw is at there in cc

leaf_kid : (l : Lock) (by : By) → l.by ≡ by → ((j : ℕ) → by ≡ Kid j → ⊥) → is_some (kid_asker (Some l)) ≡ true → ⊥
leaf_kid l Processor is none there = let bad = rw is at there in cc
leaf_kid l (Kid j) is none there = none j refl
leaf_kid l by.Parent is none there = let bad = rw is at there in cc
leaf_kid l by.Own is none there = let bad = rw is at there in cc

module _ {at : Place} {me : Option ℕ} {local : Local} {heads : Heads} {s : Held Reg Queue} (sees : Sees at me local heads s) (p : Protocol) (t : TemplateName) (tk : Take) (face : Faced at s (asker_of tk me) local (view_of tk me local heads) (row_of t)) (n : ℕ) (fits_me : me_fits at.kind tk me n ≡ true) (l : Lane) (own : same_lane l Down ≡ false) where
  no_kid : (leaf : at.kind ≡ Leaf) (which : Side) (lock : Lock) → lock_at which local ≡ Some lock → (j : ℕ) → lock.by ≡ Kid j → ⊥
  no_kid leaf which lock held j is =
      let less = origin_child at.kind at.kids lock.by j (sees.origin which lock held) is in
      let none = ap length (sees.kids.of_leaf leaf) in
      absurd (omega (arith, less, none))

  leaf_me : at.kind ≡ Leaf → (tk : Take) → me_fits at.kind tk me n ≡ true → has_requester (view_of tk me local heads) ≡ true → (view_of tk me local heads).requester ≡ Some Processor
  leaf_me leaf (take.Me id) fits there = ap (λ me. Some (requester me)) (names_none at.kind (take.Me id) me n leaf fits)
  leaf_me leaf (take.Parent id) fits there = of_lock local.up (λ lock held. no_kid leaf side.Up lock held) there
    where
      of_lock : (up : Option Lock) → ((lock : Lock) → up ≡ Some lock → (j : ℕ) → lock.by ≡ Kid j → ⊥) → is_some (asker up) ≡ true → asker up ≡ Some Processor
      of_lock None none there = cc
      of_lock (Some lock) none there = leaf_asker lock lock.by refl (none lock refl) there
  leaf_me leaf (take.Kids id) fits there = absurd (of_lock local.down (λ lock held. no_kid leaf side.Down lock held) there)
    where
      of_lock : (down : Option Lock) → ((lock : Lock) → down ≡ Some lock → (j : ℕ) → lock.by ≡ Kid j → ⊥) → is_some (kid_asker down) ≡ true → ⊥
      of_lock None none there = cc
      of_lock (Some lock) none there = leaf_kid lock lock.by refl (none lock refl) there
  leaf_me leaf take.Nothing fits there = cc

  abbrev mine : Queue
  mine = record { object = at.object; lane = l }

  here : (at.object == at.object) ≡ true
  here = same_number at.object at.object refl

  -- no child's queue is one of the object's own lists
  not_mine : (m : Item) (tests : ℕ × ℕ → List Test) (kids : List (ℕ × ℕ)) → picked (λ (w : List Test × Queue). list_all (test_holds s) w.0 && same_queue mine w.1) m (map (λ k. (tests k, child_queue k)) kids) ≡ []
  not_mine m tests kids =
      picked-map (λ (w : List Test × Queue). list_all (test_holds s) w.0 && same_queue mine w.1) m (λ k. (tests k, child_queue k)) kids
      ∙ never_picked (λ k. list_all (test_holds s) (tests k) && (at.object == k.1 && same_lane l Down)) m kids (λ k. and_false _ _ (and_false (at.object == k.1) _ own))

  inner_mine : (m : Item) (kind : Kind) (who : Asker) → is_leaf kind ≡ false → picked (λ (w : List Test × Queue). list_all (test_holds s) w.0 && same_queue mine w.1) m (requester_queues kind at who) ≡ []
  inner_mine m Leaf who inner = cc
  inner_mine m Root (fixed me) inner = not_mine m (λ k. []) (filter (λ k. is_named me k.0) (kids_at at))
  inner_mine m Mid (fixed me) inner = not_mine m (λ k. []) (filter (λ k. is_named me k.0) (kids_at at))
  inner_mine m Root (holder which) inner = not_mine m (λ k. held_for at which k ∷ []) (kids_at at)
  inner_mine m Mid (holder which) inner = not_mine m (λ k. held_for at which k ∷ []) (kids_at at)

  to_me : (m : Item) (b : Bool) → is_leaf at.kind ≡ b → may_name_requester (row_of t) ≡ true → picked (λ (w : List Test × Queue). list_all (test_holds s) w.0 && same_queue mine w.1) m (requester_queues at.kind at (asker_of tk me)) ≡ to_own l (to_requester (view_of tk me local heads).requester) m
  to_me m true is asks =
      let leaf = leaf_is at.kind is in
      ap (λ kind. picked (λ (w : List Test × Queue). list_all (test_holds s) w.0 && same_queue mine w.1) m (requester_queues kind at (asker_of tk me))) leaf
      ∙ ap (λ b. one_if (b && same_lane l Answers) m ++ []) here
      ∙ answered l m
      ∙ sym (ap (λ (by : Option By). to_own l (to_requester by) m) (leaf_me leaf tk fits_me (face.requester asks)))
  to_me m false is asks =
      let inner : not (is_leaf at.kind) ≡ true = rw is refl in
      let it = face.kid (and_both _ _ asks inner) in
      inner_mine m at.kind (asker_of tk me) is
      ∙ sym (none_own l m it.0)
      ∙ sym (ap (λ (by : Option By). to_own l (to_requester by) m) it.2)

  to_nobody : (m : Item) (xs : List ((ℕ × ℕ) × List Test)) → picked (λ (x : (ℕ × ℕ) × List Test). list_all (test_holds s) x.1 && same_queue mine (child_queue x.0)) m xs ≡ []
  to_nobody m xs = never_picked (λ (x : (ℕ × ℕ) × List Test). list_all (test_holds s) x.1 && same_queue mine (child_queue x.0)) m xs (λ x. and_false _ _ (and_false (at.object == x.0.1) _ own))

  pub own_sent : (to : SendTo) → IsSending p (row_of t).sending to → option_map_or (value_fits (row_of t)) (value_sent to) true ≡ true → appended s (same_queue mine) (send_actions p at me tk to) ≡ to_own l (goes_to p to local (view_of tk me local heads)) (item_of (unwrap_or (message_of to local (view_of tk me local heads)) no_message))
  own_sent send.Nothing is fits = nobody_to l _
  own_sent (send.Me id v) is fits =
      let there = value_is_there face v fits in
      values_appended sees.shows (same_queue mine) tk v id.0 there (λ (w : List Test × Queue). w.0) (λ w. w.1) (requester_queues at.kind at (asker_of tk me))
      ∙ to_me _ (is_leaf at.kind) refl (answer_asks t (sending_me p (row_of t).sending id v is))
      ∙ ap (to_own l (to_requester (view_of tk me local heads).requester)) (message_item id _ there)
  own_sent (send.Parent id v) is fits =
      let there = value_is_there face v fits in
      value_appended sees.shows (same_queue mine) tk v id.0 there (parent_lane p at id) []
      ∙ ap (λ b. one_if (b && same_lane l (cond (has_class p id is_up_rsp) UpResponses UpRequests)) (record { id = id.0; value = unwrap_or (value_of v local (view_of tk me local heads)) 0 })) here
      ∙ up_sent _ l own (has_class p id is_up_rsp)
      ∙ ap (to_own l (cond (has_class p id is_up_rsp) to.UpResponse to.UpRequest)) (message_item id _ there)
      ∙ sym (ap (λ to. to_own l to (item_of (unwrap_or (message_of (send.Parent id v) local (view_of tk me local heads)) no_message))) (parent_goes p id v local (view_of tk me local heads)))
  own_sent (send.Kids set id v) is fits =
      let there = value_is_there face v fits in
      values_appended sees.shows (same_queue mine) tk v id.0 there (λ (x : (ℕ × ℕ) × List Test). x.1) (λ x. child_queue x.0) (targets_at at (asker_of tk me) (send.Kids set id v))
      ∙ to_nobody _ (targets_at at (asker_of tk me) (send.Kids set id v))
      ∙ sym (none_to l _ (targets_of (send.Kids set id v) local (view_of tk me local heads)))
  own_sent (send.Others set id v) is fits =
      let there = value_is_there face v fits in
      values_appended sees.shows (same_queue mine) tk v id.0 there (λ (x : (ℕ × ℕ) × List Test). x.1) (λ x. child_queue x.0) (targets_at at (asker_of tk me) (send.Others set id v))
      ∙ to_nobody _ (targets_at at (asker_of tk me) (send.Others set id v))
      ∙ sym (none_to l _ (targets_of (send.Others set id v) local (view_of tk me local heads)))
