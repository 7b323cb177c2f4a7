-- The actions append nothing but to an object's own lists and to its children's.
use Rattle.std.proofs.Common.{◌≡◌, refl, ◌∙◌, ℕ, Bool, true, false, not, cond, List, [], ◌∷◌, Option, Some}
use Rattle.std.specs.Prelude.{filter, slice_get}
use Rattle.std.specs.List.{list_all, flat_map}
use Rattle.std.proofs.lemmas.List.Folds.{list_all-map}
use Rattle.hem_base.specs.declared.ids.MsgId.{MsgId}
use Rattle.hem_base.specs.declared.ids.Kind.{Kind}
use Rattle.hem_base.specs.declared.ids.Kind.TheVariants.{Root, Mid, Leaf}
use Rattle.hem_syntax.specs.declared.rule.Rule.{Rule}
use Rattle.hem_syntax.specs.declared.rule.Take.{Take}
use Rattle.hem_syntax.specs.declared.rule.Value.{Value}
use Rattle.hem_syntax.specs.declared.rule.SendTo.{SendTo}
use Rattle.hem_syntax.specs.declared.rule.SendTo.TheVariants as send
use Rattle.hem_syntax.specs.Protocol.{Protocol}
use Rattle.hem_syntax.specs.Protocol.{has_class, is_up_rsp}
use Rattle.hem_system.specs.declared.lane.Lane.TheVariants.{UpRequests, UpResponses, Answers}
use Rattle.hem_module.specs.Module.{enq}
use Rattle.hem_module.specs.Step.{Held, appended}
use Rattle.hem_emit.specs.Names.{Reg, Queue}
use Rattle.hem_emit.specs.Place.{Test, Place, Asker, fixed, holder, kids_at, asker_of, is_named}
use Rattle.hem_emit.specs.Clauses.{held_for}
use Rattle.hem_emit.specs.Actions.{with_value, targets_at, child_queue, requester_queues, parent_lane, send_actions, actions_of}
use Rattle.hem_emit.proofs.Tests.{list_all-flat_map}
use Rattle.hem_emit.proofs.Named.{and_both}
use Rattle.hem_emit.proofs.Spread.{all_imply, all_kept, all_from, targets_far}
use Rattle.hem_emit.proofs.Puts.{value_fine}
use Rattle.hem_emit.proofs.Appended.{misses, none_appended, sends_alone}

not_false : (b : Bool) → b ≡ false → not b ≡ true
not_false b is = rw is refl

module _ (s : Held Reg Queue) (is_it : Queue → Bool) (p : Protocol) (at : Place) (me : Option ℕ) (answers : is_it (record { object = at.object; lane = Answers }) ≡ false) (requests : is_it (record { object = at.object; lane = UpRequests }) ≡ false) (responses : is_it (record { object = at.object; lane = UpResponses }) ≡ false) (children : (k c : ℕ) → slice_get at.kids k ≡ Some c → is_it (child_queue (k, c)) ≡ false) where
  abbrev far : ℕ × ℕ → Bool
  far k = not (is_it (child_queue k))

  kids_far : list_all far (kids_at at) ≡ true
  kids_far = all_from (λ c. far (0, c)) 0 at.kids (λ j c kid. not_false _ (children j c kid))

  value_misses : (t : Take) (v : Value) (tests : List Test) (q : Queue) (id : ℕ) → not (is_it q) ≡ true → list_all (λ a. misses is_it a.deed) (with_value at me t v tests (enq q id)) ≡ true
  value_misses t v tests q id is = value_fine (misses is_it) (λ r a. refl) at me t v tests (enq q id) (λ a. is)

  requesters_far : (kind : Kind) (who : Asker) → list_all (λ (w : List Test × Queue). not (is_it w.1)) (requester_queues kind at who) ≡ true
  requesters_far Leaf who = and_both _ _ (not_false _ answers) refl
  requesters_far Root (fixed me) = list_all-map (λ (w : List Test × Queue). not (is_it w.1)) (λ k. ([], child_queue k)) (filter (λ k. is_named me k.0) (kids_at at)) ∙ all_kept far (λ k. is_named me k.0) (kids_at at) kids_far
  requesters_far Mid (fixed me) = list_all-map (λ (w : List Test × Queue). not (is_it w.1)) (λ k. ([], child_queue k)) (filter (λ k. is_named me k.0) (kids_at at)) ∙ all_kept far (λ k. is_named me k.0) (kids_at at) kids_far
  requesters_far Root (holder side) = list_all-map (λ (w : List Test × Queue). not (is_it w.1)) (λ k. (held_for at side k ∷ [], child_queue k)) (kids_at at) ∙ kids_far
  requesters_far Mid (holder side) = list_all-map (λ (w : List Test × Queue). not (is_it w.1)) (λ k. (held_for at side k ∷ [], child_queue k)) (kids_at at) ∙ kids_far

  each_misses : {A : Type 0} (t : Take) (v : Value) (id : ℕ) (tests : A → List Test) (q : A → Queue) (xs : List A) → list_all (λ x. not (is_it (q x))) xs ≡ true → list_all (λ a. misses is_it a.deed) (flat_map (λ x. with_value at me t v (tests x) (enq (q x) id)) xs) ≡ true
  each_misses t v id tests q xs all =
      list_all-flat_map (λ a. misses is_it a.deed) (λ x. with_value at me t v (tests x) (enq (q x) id)) xs
      ∙ all_imply (λ x. not (is_it (q x))) (λ x. list_all (λ a. misses is_it a.deed) (with_value at me t v (tests x) (enq (q x) id))) xs (λ x is. value_misses t v (tests x) (q x) id is) all

  parent_far : (id : MsgId) → not (is_it (parent_lane p at id)) ≡ true
  parent_far id = by_class (has_class p id is_up_rsp)
    where
      by_class : (b : Bool) → not (is_it (record { object = at.object; lane = cond b UpResponses UpRequests })) ≡ true
      by_class true = not_false _ responses
      by_class false = not_false _ requests

  sends_miss : (t : Take) (to : SendTo) → list_all (λ a. misses is_it a.deed) (send_actions p at me t to) ≡ true
  sends_miss t send.Nothing = refl
  sends_miss t (send.Me id v) = each_misses t v id.0 (λ (w : List Test × Queue). w.0) (λ w. w.1) (requester_queues at.kind at (asker_of t me)) (requesters_far at.kind (asker_of t me))
  sends_miss t (send.Parent id v) = value_misses t v [] (parent_lane p at id) id.0 (parent_far id)
  sends_miss t (send.Kids set id v) = each_misses t v id.0 (λ (x : (ℕ × ℕ) × List Test). x.1) (λ x. child_queue x.0) (targets_at at (asker_of t me) (send.Kids set id v)) (targets_far far at kids_far (asker_of t me) (send.Kids set id v))
  sends_miss t (send.Others set id v) = each_misses t v id.0 (λ (x : (ℕ × ℕ) × List Test). x.1) (λ x. child_queue x.0) (targets_at at (asker_of t me) (send.Others set id v)) (targets_far far at kids_far (asker_of t me) (send.Others set id v))

  pub nothing_elsewhere : (rule : Rule) → appended s is_it (actions_of p at me rule) ≡ []
  nothing_elsewhere rule = sends_alone s is_it p at me rule ∙ none_appended s is_it (send_actions p at me rule.take rule.send) (sends_miss rule.take rule.send)
