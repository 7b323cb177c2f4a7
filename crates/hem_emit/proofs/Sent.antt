-- The actions append to each queue what a firing sends there.
use Rattle.std.proofs.Common.{◌≡◌, refl, ap, sym, ◌∙◌, ℕ, Bool, true, false, not, cond, ◌&&◌, List, [], Option, Some, None}
use Rattle.std.specs.Prelude.{◌==◌, slice_get, is_some, option_map, unwrap_or}
use Rattle.std.specs.List.{list_all}
use Rattle.std.specs.Option.{option_map_or}
use Rattle.hem_base.specs.Sets.{has_bit}
use Rattle.hem_base.specs.declared.ids.Kind.{Kind}
use Rattle.hem_base.specs.declared.ids.Kind.TheVariants.{Root, Mid, Leaf}
use Rattle.hem_base.specs.declared.ids.MsgId.{MsgId}
use Rattle.hem_base.specs.declared.ids.StatusSet.{StatusSet}
use Rattle.hem_syntax.specs.declared.rule.Class.{Class}
use Rattle.hem_syntax.specs.declared.rule.Class.TheVariants.{ExtReq, ExtRsp, UpReq, UpRsp, DownReq, DownRsp}
use Rattle.hem_syntax.specs.declared.rule.SendTo.{SendTo}
use Rattle.hem_syntax.specs.declared.rule.SendTo.TheVariants as send
use Rattle.hem_syntax.specs.declared.rule.Take.{Take}
use Rattle.hem_template.specs.declared.template_name.TemplateName.{TemplateName}
use Rattle.hem_syntax.specs.declared.rule.Value.{Value}
use Rattle.hem_object.specs.declared.state.By.{By}
use Rattle.hem_object.specs.declared.state.By.TheVariants.{Kid}
use Rattle.hem_object.specs.declared.state.View.{View}
use Rattle.hem_syntax.specs.Protocol.{Protocol, class_of}
use Rattle.hem_object.specs.Local.{Local}
use Rattle.hem_object.specs.Guard.{value_of, is_requester}
use Rattle.hem_template.specs.Template.{row_of, may_name_requester, is_leaf, value_fits, value_sent}
use Rattle.hem_syntax.specs.Protocol.{has_class, is_up_rsp}
use Rattle.hem_object.specs.Targets.{targets_of}
use Rattle.hem_fire.specs.Heads.{Heads}
use Rattle.hem_fire.specs.Sends.{message_of, no_message, to_requester, goes_to}
use Rattle.hem_fire.specs.declared.outs.To.TheVariants as to
use Rattle.hem_fire.specs.View.{view_of}
use Rattle.hem_system.specs.declared.lane.Lane.TheVariants.{UpRequests, UpResponses, Down}
use Rattle.hem_module.specs.Module.{Item}
use Rattle.hem_module.specs.Step.{Held, test_holds, appended}
use Rattle.hem_rows.specs.Rows.{IsSending}
use Rattle.hem_emit.specs.Names.{Reg, Queue, same_lane, same_queue}
use Rattle.hem_emit.specs.Place.{Test, Place, asker_of}
use Rattle.hem_emit.specs.Actions.{targets_at, requester_queues, child_queue, parent_lane, send_actions}
use Rattle.hem_emit.specs.Image.{item_of}
use Rattle.hem_emit.specs.Sent.{to_child}
use Rattle.hem_emit.proofs.Tests.{and_true}
use Rattle.hem_emit.proofs.Places.{requester-is}
use Rattle.hem_emit.proofs.Entries.{Sees}
use Rattle.hem_emit.proofs.Faced.{Faced}
use Rattle.hem_emit.proofs.Named.{and_both, value_is_there}
use Rattle.hem_emit.proofs.Guards.{is_asker}
use Rattle.hem_emit.proofs.Sends.{Levels, others_ask, sending_others, answer_asks, sending_me}
use Rattle.hem_emit.proofs.Awaited.{target_is}
use Rattle.hem_emit.proofs.Picked.{picked, one_if}
use Rattle.hem_emit.proofs.Appended.{value_appended, values_appended}
use Rattle.hem_emit.proofs.Reached.{targets_single, requester_picked}

pub message_item : (id : MsgId) (o : Option ℕ) → is_some o ≡ true → record { id = id.0; value = unwrap_or o 0 } ≡ item_of (unwrap_or (option_map (λ x. record { id = id; value = x }) o) no_message)
message_item id None there = cc
message_item id (Some x) there = refl

-- which list to the parent a message goes to
goes_up : (p : Protocol) (id : MsgId) (v : Value) (local : Local) (view : View) (class : Option Class) → class_of p id ≡ class → goes_to p (send.Parent id v) local view ≡ cond (option_map_or is_up_rsp class false) to.UpResponse to.UpRequest
goes_up p id v local view None is = rw (is, goes_to) refl
goes_up p id v local view (Some ExtReq) is = rw (is, goes_to) refl
goes_up p id v local view (Some ExtRsp) is = rw (is, goes_to) refl
goes_up p id v local view (Some UpReq) is = rw (is, goes_to) refl
goes_up p id v local view (Some UpRsp) is = rw (is, goes_to) refl
goes_up p id v local view (Some DownReq) is = rw (is, goes_to) refl
goes_up p id v local view (Some DownRsp) is = rw (is, goes_to) refl

pub parent_goes : (p : Protocol) (id : MsgId) (v : Value) (local : Local) (view : View) → goes_to p (send.Parent id v) local view ≡ cond (has_class p id is_up_rsp) to.UpResponse to.UpRequest
parent_goes p id v local view = goes_up p id v local view (class_of p id) refl

pub leaf_is : (kind : Kind) → is_leaf kind ≡ true → kind ≡ Leaf
leaf_is Root is = cc
leaf_is Mid is = cc
leaf_is Leaf is = refl

module _ {at : Place} {me : Option ℕ} {local : Local} {heads : Heads} {s : Held Reg Queue} (sees : Sees at me local heads s) (p : Protocol) (t : TemplateName) (tk : Take) (face : Faced at s (asker_of tk me) local (view_of tk me local heads) (row_of t)) where
  -- what a send appends to the queue of the child at a place
  module _ (k c : ℕ) (kid : slice_get at.kids k ≡ Some c) where
    to_kid : (v : Value) (m : Item) (b : Bool) → is_leaf at.kind ≡ b → may_name_requester (row_of t) ≡ true → picked (λ (w : List Test × Queue). list_all (test_holds s) w.0 && same_queue (child_queue (k, c)) w.1) m (requester_queues at.kind at (asker_of tk me)) ≡ to_child k (to_requester (view_of tk me local heads).requester) m
    to_kid v m true leaf asks =
        let none = sees.kids.of_leaf (leaf_is at.kind leaf) in
        let bad = sym (ap (λ kids. slice_get kids k) none) ∙ kid in
        cc
    to_kid v m false leaf asks =
        let inner : not (is_leaf at.kind) ≡ true = rw leaf refl in
        let may = and_both _ _ asks inner in
        let it = face.kid may in
        requester_picked at sees.kids s k c kid m at.kind (asker_of tk me) inner
        ∙ ap (λ b. one_if b m) (face.guarded.names k c kid may ∙ requester-is (view_of tk me local heads) (Some (Kid it.0)) k it.2)
        ∙ sym (ap (λ (by : Option By). to_child k (to_requester by) m) it.2)

    to_target : (to : SendTo) (v : Value) (id : ℕ) (there : is_some (value_of v local (view_of tk me local heads)) ≡ true) (m : Item) → ((set : StatusSet) (id : MsgId) (v : Value) → to ≡ send.Others set id v → is_asker at s (asker_of tk me) k c ≡ is_requester (view_of tk me local heads) k) → picked (λ (x : (ℕ × ℕ) × List Test). list_all (test_holds s) x.1 && same_queue (child_queue (k, c)) (child_queue x.0)) m (targets_at at (asker_of tk me) to) ≡ one_if (has_bit (targets_of to local (view_of tk me local heads)).0 k) m
    to_target to v id there m asks =
        (λ i. picked (λ (x : (ℕ × ℕ) × List Test). list_all (test_holds s) x.1 && and_true (c == x.0.1) i) m (targets_at at (asker_of tk me) to))
        ∙ targets_single at sees.kids s k c kid m (asker_of tk me) to
        ∙ ap (λ b. one_if b m) (target_is sees k c kid (asker_of tk me) (view_of tk me local heads) to asks)

    pub child_sent : (to : SendTo) → IsSending p (row_of t).sending to → Levels at.kind to → option_map_or (value_fits (row_of t)) (value_sent to) true ≡ true → appended s (same_queue (child_queue (k, c))) (send_actions p at me tk to) ≡ to_child k (goes_to p to local (view_of tk me local heads)) (item_of (unwrap_or (message_of to local (view_of tk me local heads)) no_message))
    child_sent send.Nothing is level fits = refl
    child_sent (send.Me id v) is level fits =
        let there = value_is_there face v fits in
        values_appended sees.shows (same_queue (child_queue (k, c))) tk v id.0 there (λ (w : List Test × Queue). w.0) (λ w. w.1) (requester_queues at.kind at (asker_of tk me))
        ∙ to_kid v _ (is_leaf at.kind) refl (answer_asks t (sending_me p (row_of t).sending id v is))
        ∙ ap (to_child k (to_requester (view_of tk me local heads).requester)) (message_item id _ there)
    child_sent (send.Parent id v) is level fits =
        let there = value_is_there face v fits in
        value_appended sees.shows (same_queue (child_queue (k, c))) tk v id.0 there (parent_lane p at id) []
        ∙ by_class _ _ (c == at.object) (has_class p id is_up_rsp)
        ∙ sym (ap (λ to. to_child k to (item_of (unwrap_or (message_of (send.Parent id v) local (view_of tk me local heads)) no_message))) (parent_goes p id v local (view_of tk me local heads)))
      where
        by_class : (m n : Item) (a b : Bool) → one_if (a && same_lane Down (cond b UpResponses UpRequests)) m ≡ to_child k (cond b to.UpResponse to.UpRequest) n
        by_class m n true true = refl
        by_class m n true false = refl
        by_class m n false true = refl
        by_class m n false false = refl
    child_sent (send.Kids set id v) is level fits =
        let there = value_is_there face v fits in
        values_appended sees.shows (same_queue (child_queue (k, c))) tk v id.0 there (λ (x : (ℕ × ℕ) × List Test). x.1) (λ x. child_queue x.0) (targets_at at (asker_of tk me) (send.Kids set id v))
        ∙ to_target (send.Kids set id v) v id.0 there _ (λ set id v is. cc)
        ∙ ap (one_if (has_bit (targets_of (send.Kids set id v) local (view_of tk me local heads)).0 k)) (message_item id _ there)
    child_sent (send.Others set id v) is level fits =
        let there = value_is_there face v fits in
        values_appended sees.shows (same_queue (child_queue (k, c))) tk v id.0 there (λ (x : (ℕ × ℕ) × List Test). x.1) (λ x. child_queue x.0) (targets_at at (asker_of tk me) (send.Others set id v))
        ∙ to_target (send.Others set id v) v id.0 there _ (λ other id_of v_of same. face.guarded.names k c kid (and_both _ _ (others_ask t (sending_others p (row_of t).sending set id v is)) (level.others set id v refl)))
        ∙ ap (one_if (has_bit (targets_of (send.Others set id v) local (view_of tk me local heads)).0 k)) (message_item id _ there)
