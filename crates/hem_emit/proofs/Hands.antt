-- Each template that locks has in hand the lock that its actions write.
use Rattle.std.proofs.Common.{◌≡◌, refl, ap, sym, ◌∙◌, subst, ℕ, true, false, Option, Some, None}
use Rattle.std.specs.Prelude.{unwrap_or, is_some, option_map}
use Rattle.std.specs.Option.{option_map_or}
use Rattle.hem_base.specs.declared.ids.Message.{Message}
use Rattle.hem_base.specs.declared.ids.MsgId.{MsgId}
use Rattle.hem_base.specs.declared.ids.StatusSet.{StatusSet}
use Rattle.hem_syntax.specs.declared.rule.Class.{Class}
use Rattle.hem_syntax.specs.declared.rule.Class.TheVariants.{DownRsp}
use Rattle.hem_syntax.specs.declared.rule.Take.{Take}
use Rattle.hem_syntax.specs.declared.rule.Take.TheVariants as take
use Rattle.hem_syntax.specs.declared.rule.Hold.TheVariants as hold
use Rattle.hem_syntax.specs.declared.rule.Side.{Side}
use Rattle.hem_syntax.specs.declared.rule.Side.TheVariants.{Up}
use Rattle.hem_syntax.specs.declared.rule.Origin.{Origin}
use Rattle.hem_syntax.specs.declared.rule.Origin.TheVariants as wanted
use Rattle.hem_syntax.specs.declared.rule.Value.{Value}
use Rattle.hem_syntax.specs.declared.rule.Value.TheVariants as value
use Rattle.hem_syntax.specs.declared.rule.SendTo.{SendTo}
use Rattle.hem_syntax.specs.declared.rule.SendTo.TheVariants as send
use Rattle.hem_template.specs.declared.template_name.TemplateName.{TemplateName}
use Rattle.hem_template.specs.declared.template_name.TemplateName.TheVariants.{RqUp, RqUpSelf, RqUpDown, RqDownSelf, RqDownDown, RsDownRqDown}
use Rattle.hem_object.specs.declared.state.By.TheVariants.{Parent, Own}
use Rattle.hem_object.specs.declared.state.Lock.{Lock}
use Rattle.hem_syntax.specs.Protocol.{Protocol, class_of, is_request}
use Rattle.hem_object.specs.Local.{Local}
use Rattle.hem_object.specs.Guard.{value_of}
use Rattle.hem_template.specs.Template.{row_of, take_class_fits, value_fits, value_sent}
use Rattle.hem_syntax.specs.Protocol.{has_class, is_down_req, is_down_rsp}
use Rattle.hem_fire.specs.Heads.{Heads, has_id, takes_there}
use Rattle.hem_fire.specs.View.{requester, request_of, value_in, view_of}
use Rattle.hem_fire.specs.Locks.{if_request, first_of, need_holds}
use Rattle.hem_module.specs.Step.{Held, amount_in}
use Rattle.hem_rows.specs.Rows.{IsTaking, IsSending}
use Rattle.hem_rows.proofs.Possible.{needed}
use Rattle.hem_emit.specs.Names.{Reg, Queue, lock, origin, asked}
use Rattle.hem_emit.specs.Place.{Place, fixed, origin_of}
use Rattle.hem_emit.specs.Actions.{origin_amount, id_in_hand, value_in_hand}
use Rattle.hem_emit.specs.Image.{lock_number}
use Rattle.hem_emit.specs.Shows.{Shows}
use Rattle.hem_emit.proofs.Named.{class_kept, down_requests, me_class, same_id}
use Rattle.hem_emit.proofs.Amounts.{is_plain}
use Rattle.hem_emit.proofs.Locks.{InHand}

-- what has an id is there, and its number is the id's
there : (head : Option Message) (id : MsgId) → has_id head id ≡ true → (m : Message) × (head ≡ Some m) × (m.id ≡ id)
there None id has = cc
there (Some m) id has = (m, refl, same_id m.id id has)

-- a request is one, and a response is none
request_kept : (p : Protocol) (head : Option Message) (m : Message) (id : MsgId) → head ≡ Some m → m.id ≡ id → has_class p id is_request ≡ true → if_request p head ≡ Some m
request_kept p head m id is same class = ap (if_request p) is ∙ by_class (ap (λ id. has_class p id is_request) same ∙ class)
  where
    by_class : has_class p m.id is_request ≡ true → if_request p (Some m) ≡ Some m
    by_class is = rw is refl

response_dropped : (p : Protocol) (head : Option Message) (m : Message) (id : MsgId) → head ≡ Some m → m.id ≡ id → has_class p id is_request ≡ false → if_request p head ≡ None
response_dropped p head m id is same class = ap (if_request p) is ∙ by_class (ap (λ id. has_class p id is_request) same ∙ class)
  where
    by_class : has_class p m.id is_request ≡ false → if_request p (Some m) ≡ None
    by_class is = rw is refl

no_request : (p : Protocol) (id : MsgId) → has_class p id is_down_rsp ≡ true → has_class p id is_request ≡ false
no_request p id is = of_class (class_of p id) is
  where
    by_class : (c : Class) → is_down_rsp c ≡ true → is_request c ≡ false
    by_class DownRsp is = refl
    by_class _ is = cc

    of_class : (c : Option Class) → option_map_or is_down_rsp c false ≡ true → option_map_or is_request c false ≡ false
    of_class None is = cc
    of_class (Some c) is = by_class c is

value_read_of : (head : Option Message) (m : Message) → head ≡ Some m → unwrap_or (value_in head) 0 ≡ m.value
value_read_of head m is = rw is refl

of_some : {A : Type 0} {x y : A} → Some x ≡ Some y → x ≡ y
of_some is = cc

module _ (at : Place) (me : Option ℕ) (local : Local) (heads : Heads) (s : Held Reg Queue) (p : Protocol) where
  hand_me : (id : MsgId) (to : SendTo) → has_id heads.request id ≡ true → has_class p id is_request ≡ true → InHand p at me s (take.Me id) to local heads wanted.Child
  hand_me id to has class =
      let m = there heads.request id has in
      record {
        by = requester me;
        request = m.0;
        holder = refl;
        keeps = request_kept p heads.request m.0 id m.1 m.2 class;
        by_read = by_me me;
        id_read = sym (ap (λ (i : MsgId). i.0) m.2);
        value_read = value_read_of heads.request m.0 m.1;
        plain = refl;
      }
    where
      by_me : (me : Option ℕ) → amount_in s (origin_amount at (fixed me) wanted.Child) ≡ origin_of at.kids (requester me)
      by_me None = refl
      by_me (Some k) = refl

  some_value : (o : Option ℕ) → is_some o ≡ true → (x : ℕ) × (o ≡ Some x)
  some_value None there = cc
  some_value (Some x) there = (x, refl)

  -- the value of a rule that takes nothing
  own_value : (v : Value) → is_some (value_of v local (view_of take.Nothing me local heads)) ≡ true → is_plain v ≡ true
  own_value value.Val there = refl
  own_value value.Zero there = refl
  own_value value.Msg there = refl
  own_value value.Kept there = refl
  own_value value.Rs there = cc

  hand_up : (id : MsgId) (v : Value) → is_some (value_of v local (view_of take.Nothing me local heads)) ≡ true → InHand p at me s take.Nothing (send.Parent id v) local heads wanted.Own
  hand_up id v has =
      let x = some_value (value_of v local (view_of take.Nothing me local heads)) has in
      record {
        by = Own;
        request = record { id = id; value = x.0 };
        holder = refl;
        keeps = ap (option_map (λ x. record { id = id; value = x })) x.1;
        by_read = refl;
        id_read = refl;
        value_read = ap (λ (o : Option ℕ). unwrap_or o 0) x.1;
        plain = own_value v has;
      }

  hand_down : (set : StatusSet) (id : MsgId) (v : Value) → is_some (value_of v local (view_of take.Nothing me local heads)) ≡ true → InHand p at me s take.Nothing (send.Kids set id v) local heads wanted.Own
  hand_down set id v has =
      let x = some_value (value_of v local (view_of take.Nothing me local heads)) has in
      record {
        by = Own;
        request = record { id = id; value = x.0 };
        holder = refl;
        keeps = ap (option_map (λ x. record { id = id; value = x })) x.1;
        by_read = refl;
        id_read = refl;
        value_read = ap (λ (o : Option ℕ). unwrap_or o 0) x.1;
        plain = own_value v has;
      }

  hand_parent : (id : MsgId) (to : SendTo) → has_id heads.parent id ≡ true → has_class p id is_request ≡ true → InHand p at me s (take.Parent id) to local heads wanted.Parent
  hand_parent id to has class =
      let m = there heads.parent id has in
      record {
        by = Parent;
        request = m.0;
        holder = refl;
        keeps = ap (λ (x : Option Message). first_of x (request_of local.up)) (request_kept p heads.parent m.0 id m.1 m.2 class);
        by_read = refl;
        id_read = id_is (sym (ap (λ (i : MsgId). i.0) m.2));
        value_read = value_is (value_read_of heads.parent m.0 m.1);
        plain = rw class refl;
      }
    where
      id_is : {n : ℕ} → id.0 ≡ n → amount_in s (id_in_hand p at (take.Parent id) to) ≡ n
      id_is is = rw class is

      value_is : {n : ℕ} → unwrap_or (value_in heads.parent) 0 ≡ n → unwrap_or (value_of (value_in_hand p (take.Parent id) to) local (view_of (take.Parent id) me local heads)) 0 ≡ n
      value_is is = rw class is

  hand_passed : (id : MsgId) (to : SendTo) → Shows at me local heads s → has_id heads.parent id ≡ true → has_class p id is_request ≡ false → need_holds hold.Child local.up ≡ true → InHand p at me s (take.Parent id) to local heads wanted.Child
  hand_passed id to shows has class holds =
      let m = there heads.parent id has in
      let l = needed hold.Child local.up holds in
      record {
        by = l.0.by;
        request = l.0.request;
        holder = l.2;
        keeps = ap (λ (x : Option Message). first_of x (request_of local.up)) (response_dropped p heads.parent m.0 id m.1 m.2 class) ∙ ap request_of l.1;
        by_read = shows.locks Up origin ∙ ap (lock_number at.kids origin) l.1;
        id_read = id_is l.0 (shows.locks Up asked ∙ ap (lock_number at.kids asked) l.1);
        value_read = value_is l.0 (ap (λ (o : Option Lock). unwrap_or (option_map (λ m. m.value) (request_of o)) 0) l.1);
        plain = rw class refl;
      }
    where
      id_is : (l : Lock) → s.reg (lock Up asked at.object) ≡ l.request.id.0 → amount_in s (id_in_hand p at (take.Parent id) to) ≡ l.request.id.0
      id_is l is = rw class is

      value_is : (l : Lock) → unwrap_or (option_map (λ m. m.value) (request_of local.up)) 0 ≡ l.request.value → unwrap_or (value_of (value_in_hand p (take.Parent id) to) local (view_of (take.Parent id) me local heads)) 0 ≡ l.request.value
      value_is l is = rw class is

  pub hand_of : Shows at me local heads s → (t : TemplateName) (tk : Take) (to : SendTo) (l : Side × Origin) → (row_of t).locks ≡ Some l → IsTaking p (row_of t).taking tk → IsSending p (row_of t).sending to → take_class_fits p at.kind tk ≡ true → takes_there tk local heads ≡ true → need_holds (row_of t).up local.up ≡ true → ((v : Value) → value_fits (row_of t) v ≡ true → is_some (value_of v local (view_of tk me local heads)) ≡ true) → option_map_or (value_fits (row_of t)) (value_sent to) true ≡ true → InHand p at me s tk to local heads l.1
  hand_of shows RqUp (take.Me id) to l locks is sends class there up values fit = subst (λ l. InHand p at me s (take.Me id) to local heads l.1) (of_some locks) (hand_me id to there (me_class p at.kind id class))
  hand_of shows RqUp _ to l locks is sends class there up values fit = let e = is.1 in cc
  hand_of shows RqUpDown (take.Me id) to l locks is sends class there up values fit = subst (λ l. InHand p at me s (take.Me id) to local heads l.1) (of_some locks) (hand_me id to there (me_class p at.kind id class))
  hand_of shows RqUpDown _ to l locks is sends class there up values fit = let e = is.1 in cc
  hand_of shows RqUpSelf take.Nothing (send.Parent id v) l locks is sends class there up values fit = subst (λ l. InHand p at me s take.Nothing (send.Parent id v) local heads l.1) (of_some locks) (hand_up id v (values v fit))
  hand_of shows RqUpSelf take.Nothing _ l locks is sends class there up values fit = let e = sends.2 in cc
  hand_of shows RqUpSelf _ to l locks is sends class there up values fit = cc
  hand_of shows RqDownSelf take.Nothing (send.Kids set id v) l locks is sends class there up values fit = subst (λ l. InHand p at me s take.Nothing (send.Kids set id v) local heads l.1) (of_some locks) (hand_down set id v (values v fit))
  hand_of shows RqDownSelf take.Nothing _ l locks is sends class there up values fit = let e = sends.3 in cc
  hand_of shows RqDownSelf _ to l locks is sends class there up values fit = cc
  hand_of shows RqDownDown (take.Parent id) to l locks is sends class there up values fit =
      let same : is.0 ≡ id = (let e = is.1 in cc) in
      subst (λ l. InHand p at me s (take.Parent id) to local heads l.1) (of_some locks) (hand_parent id to there (class_kept p id is_down_req down_requests (ap (λ id. has_class p id is_down_req) (sym same) ∙ is.2)))
  hand_of shows RqDownDown _ to l locks is sends class there up values fit = let e = is.1 in cc
  hand_of shows RsDownRqDown (take.Parent id) to l locks is sends class there up values fit =
      let same : is.0 ≡ id = (let e = is.1 in cc) in
      subst (λ l. InHand p at me s (take.Parent id) to local heads l.1) (of_some locks) (hand_passed id to shows there (no_request p id (ap (λ id. has_class p id is_down_rsp) (sym same) ∙ is.2)) up)
  hand_of shows RsDownRqDown _ to l locks is sends class there up values fit = let e = is.1 in cc
  hand_of shows _ tk to l locks is sends class there up values fit = cc
