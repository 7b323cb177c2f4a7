-- Where the message of a firing goes, and of which class it is.
use Rattle.std.proofs.Common.{◌≡◌, refl, ap, sym, ◌∙◌, subst, ℕ, arith, Bool, true, false, not, ◌&&◌, Option, Some, None}
use Rattle.std.specs.Prelude.{◌==◌, option_map, is_some, unwrap_or, length}
use Rattle.std.specs.Option.{option_map_or}
use Rattle.hem_base.specs.declared.ids.KidSet.{KidSet}
use Rattle.hem_base.specs.declared.ids.Message.{Message}
use Rattle.hem_base.specs.declared.ids.MsgId.{MsgId}
use Rattle.hem_base.specs.declared.ids.Kind.{Kind}
use Rattle.hem_base.specs.declared.ids.Kind.TheVariants.{Root, Mid, Leaf}
use Rattle.hem_syntax.specs.declared.rule.Class.{Class}
use Rattle.hem_syntax.specs.declared.rule.Class.TheVariants.{ExtReq, ExtRsp, UpReq, UpRsp, DownReq, DownRsp}
use Rattle.hem_syntax.specs.declared.rule.Value.{Value}
use Rattle.hem_syntax.specs.declared.rule.SendTo.{SendTo}
use Rattle.hem_syntax.specs.declared.rule.SendTo.TheVariants as send
use Rattle.hem_object.specs.declared.state.By.{By}
use Rattle.hem_object.specs.declared.state.By.TheVariants.{Kid}
use Rattle.hem_object.specs.declared.state.View.{View}
use Rattle.hem_syntax.specs.Protocol.{Protocol, class_of, has_class, is_up_req, is_up_rsp, is_down_req, is_down_rsp}
use Rattle.hem_object.specs.Local.{Local}
use Rattle.hem_object.specs.Guard.{value_of, is_requester, has_requester}
use Rattle.hem_template.specs.Template.{is_leaf, send_class_fits}
use Rattle.hem_template.specs.declared.row.Sending.{Sending}
use Rattle.hem_template.specs.declared.row.Sending.TheVariants.{NothingSent, ToRequester, RequestUp, ResponseUp, ToOthers, ToKids}
use Rattle.hem_object.specs.Targets.{targets_of, kid_is_in}
use Rattle.hem_fire.specs.declared.outs.To.{To}
use Rattle.hem_fire.specs.declared.outs.To.TheVariants as to
use Rattle.hem_fire.specs.declared.outs.Outs.{Outs}
use Rattle.hem_fire.specs.Sends.{message_of, no_message, has_parent, send_names, to_requester, goes_to}
use Rattle.hem_rows.specs.Rows.{IsSending}
use Rattle.hem_rows.specs.Acts.{GoesToRequester, GoesToKids, GoesToOthers, IsSent, IsReached}
use Rattle.hem_rows.proofs.Choices.{both, not-true}
use Rattle.hem_rows.proofs.Bits.{bits_where-not, bits_where-some}

-- what a firing sends, by its rule's send
record Gives (p : Protocol) (s : SendTo) (local : Local) (view : View) (outs : Outs) : Type 0 where
  way : outs.to ≡ goes_to p s local view
  message : outs.message ≡ unwrap_or (message_of s local view) no_message

-- the id of the message
id_sent : (value : Option ℕ) (id : MsgId) → is_some value ≡ true → (unwrap_or (option_map (λ x. (let m : Message = record { id = id; value = x } in m)) value) no_message).id ≡ id
id_sent None id some = cc
id_sent (Some x) id some = refl

-- a class that passes a test is there
up_request_way : (c : Option Class) → option_map_or is_up_req c false ≡ true → (elim c as (λ x. To) [ None ↦ to.UpRequest | Some c ↦ elim c as (λ x. To) [ UpRsp ↦ to.UpResponse | _ ↦ to.UpRequest ] ]) ≡ to.UpRequest
up_request_way None is = cc
up_request_way (Some UpReq) is = refl
up_request_way (Some ExtReq) is = cc
up_request_way (Some ExtRsp) is = cc
up_request_way (Some UpRsp) is = cc
up_request_way (Some DownReq) is = cc
up_request_way (Some DownRsp) is = cc

up_response_way : (c : Option Class) → option_map_or is_up_rsp c false ≡ true → (elim c as (λ x. To) [ None ↦ to.UpRequest | Some c ↦ elim c as (λ x. To) [ UpRsp ↦ to.UpResponse | _ ↦ to.UpRequest ] ]) ≡ to.UpResponse
up_response_way None is = cc
up_response_way (Some UpRsp) is = refl
up_response_way (Some ExtReq) is = cc
up_response_way (Some ExtRsp) is = cc
up_response_way (Some UpReq) is = cc
up_response_way (Some DownReq) is = cc
up_response_way (Some DownRsp) is = cc

-- a requester that is there
requester_there : (me : Option By) → is_some me ≡ true → (by : By) × (me ≡ Some by)
requester_there None some = cc
requester_there (Some by) some = (by, refl)

-- the class of an answer to the requester of an object that is no leaf
answer_class : (p : Protocol) (kind : Kind) (id : MsgId) (v : Value) → send_class_fits p kind (send.Me id v) ≡ true → is_leaf kind ≡ false → has_class p id is_down_rsp ≡ true
answer_class p Root id v fits no_leaf = fits
answer_class p Mid id v fits no_leaf = fits
answer_class p Leaf id v fits no_leaf = cc

sent_to_me : (p : Protocol) (kind : Kind) (id : MsgId) (v : Value) (local : Local) (view : View) (outs : Outs) → send_class_fits p kind (send.Me id v) ≡ true → send_names kind (send.Me id v) local view ≡ true → Gives p (send.Me id v) local view outs → GoesToRequester p kind view.requester outs
sent_to_me p kind id v local view outs fits names gives =
    let parts = both (has_requester view) (is_some (value_of v local view)) names in
    let it = requester_there view.requester parts.0 in
    record {
      by = it.0;
      asker = it.1;
      goes = gives.way ∙ ap to_requester it.1;
      response = λ no_leaf. ap (λ (m : Message). has_class p m.id is_down_rsp) gives.message ∙ ap (λ id. has_class p id is_down_rsp) (id_sent (value_of v local view) id parts.1) ∙ answer_class p kind id v fits no_leaf;
    }

sent_to_kids : (p : Protocol) (id : MsgId) (value : Option ℕ) (targets : KidSet) (outs : Outs) → has_class p id is_down_req ≡ true → is_some value ≡ true → not (targets.0 == 0) ≡ true → outs.to ≡ to.Kids targets → outs.message ≡ unwrap_or (option_map (λ x. (let m : Message = record { id = id; value = x } in m)) value) no_message → GoesToKids p targets outs
sent_to_kids p id value targets outs class names some way message =
    record {
      goes = way;
      some = not-true _ some;
      request = ap (λ (m : Message). has_class p m.id is_down_req) message ∙ ap (λ id. has_class p id is_down_req) (id_sent value id names) ∙ class;
    }

-- the requester isn't among the others
not_other : (view : View) (c : ℕ) (by : By) (b : Bool) → view.requester ≡ Some by → by ≡ Kid c → (b && not (is_requester view c)) ≡ false
not_other view c by b me is =
    let it : is_requester view c ≡ (c == c) = ap (λ (m : Option By). elim m as (λ x. Bool) [ None ↦ false | Some by ↦ elim by as (λ x. Bool) [ Kid d ↦ d == c | _ ↦ false ] ]) (me ∙ ap Some is) in
    rw (it, same c) (never b)
  where
    same : (c : ℕ) → (c == c) ≡ true
    same c = grind arith

    never : (b : Bool) → (b && false) ≡ false
    never true = refl
    never false = refl

-- where the message goes
pub sent_by : (p : Protocol) (kind : Kind) (sending : Sending) (s : SendTo) (local : Local) (view : View) (outs : Outs) → IsSending p sending s → send_class_fits p kind s ≡ true → send_names kind s local view ≡ true → outs.to ≡ goes_to p s local view → outs.message ≡ unwrap_or (message_of s local view) no_message → IsSent p kind sending view.requester (targets_of s local view) outs
sent_by p kind NothingSent s local view outs is fits names way message = way ∙ ap (λ s. goes_to p s local view) is
sent_by p kind ToRequester s local view outs is fits names way message =
    let id = is.0 in
    let v = is.1 in
    let s_is : s ≡ send.Me id v = is.2 in
    sent_to_me p kind id v local view outs (rw s_is at fits) (rw s_is at names) (record { way = rw s_is at way; message = rw s_is at message })
sent_by p kind RequestUp s local view outs is fits names way message =
    let id = is.0 in
    let v = is.1 in
    let s_is : s ≡ send.Parent id v = is.2 in
    record { goes = way ∙ ap (λ s. goes_to p s local view) s_is ∙ up_request_way (class_of p id) is.3; parent = (both (has_parent kind) (is_some (value_of v local view)) (rw s_is at names)).0 }
sent_by p kind ResponseUp s local view outs is fits names way message =
    let id = is.0 in
    let v = is.1 in
    let s_is : s ≡ send.Parent id v = is.2 in
    record { goes = way ∙ ap (λ s. goes_to p s local view) s_is ∙ up_response_way (class_of p id) is.3; parent = (both (has_parent kind) (is_some (value_of v local view)) (rw s_is at names)).0 }
sent_by p kind ToOthers s local view outs is fits names way message =
    let set = is.0 in
    let id = is.1 in
    let v = is.2 in
    let s_is : s ≡ send.Others set id v = is.3 in
    let targets = targets_of (send.Others set id v) local view in
    let a = both (has_requester view && is_some (value_of v local view)) (not (targets.0 == 0)) (rw s_is at names) in
    let b = both (has_requester view) (is_some (value_of v local view)) a.0 in
    let it = requester_there view.requester b.0 in
    subst (λ s. GoesToOthers p view.requester (targets_of s local view) outs) (sym s_is) (record {
      by = it.0;
      asker = it.1;
      kids = sent_to_kids p id (value_of v local view) targets outs (rw s_is at fits) b.1 a.1 (rw s_is at way) (rw s_is at message);
      spares = λ c is_c. bits_where-not (λ k. kid_is_in local set k && not (is_requester view k)) (length local.dir) c (not_other view c it.0 (kid_is_in local set c) it.1 is_c);
    })
sent_by p kind ToKids s local view outs is fits names way message =
    let set = is.0 in
    let id = is.1 in
    let v = is.2 in
    let s_is : s ≡ send.Kids set id v = is.3 in
    let targets = targets_of (send.Kids set id v) local view in
    let a = both (is_some (value_of v local view)) (not (targets.0 == 0)) (rw s_is at names) in
    subst (λ s. GoesToKids p (targets_of s local view) outs) (sym s_is) (sent_to_kids p id (value_of v local view) targets outs (rw s_is at fits) a.0 a.1 (rw s_is at way) (rw s_is at message))

-- requests go to a child
pub reached_by : (p : Protocol) (kind : Kind) (sending : Sending) (s : SendTo) (local : Local) (view : View) → IsSending p sending s → send_names kind s local view ≡ true → IsReached sending (targets_of s local view) (length local.dir)
reached_by p kind NothingSent s local view is names = tt
reached_by p kind ToRequester s local view is names = tt
reached_by p kind RequestUp s local view is names = tt
reached_by p kind ResponseUp s local view is names = tt
reached_by p kind ToOthers s local view is names =
    let set = is.0 in
    let s_is : s ≡ send.Others set is.1 is.2 = is.3 in
    let targets = targets_of (send.Others set is.1 is.2) local view in
    let a = both (has_requester view && is_some (value_of is.2 local view)) (not (targets.0 == 0)) (rw s_is at names) in
    subst (λ s. IsReached ToOthers (targets_of s local view) (length local.dir)) (sym s_is) (bits_where-some (λ k. kid_is_in local set k && not (is_requester view k)) (length local.dir) (not-true _ a.1))
reached_by p kind ToKids s local view is names =
    let set = is.0 in
    let s_is : s ≡ send.Kids set is.1 is.2 = is.3 in
    let targets = targets_of (send.Kids set is.1 is.2) local view in
    let a = both (is_some (value_of is.2 local view)) (not (targets.0 == 0)) (rw s_is at names) in
    subst (λ s. IsReached ToKids (targets_of s local view) (length local.dir)) (sym s_is) (bits_where-some (kid_is_in local set) (length local.dir) (not-true _ a.1))
