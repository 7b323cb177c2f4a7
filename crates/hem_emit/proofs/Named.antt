-- Where a rule that has a template can begin, everything that its sets and its lock name exists.
use Rattle.std.proofs.Common.{◌≡◌, refl, ap, sym, ◌∙◌, ℕ, Bool, true, false, not, ◌&&◌, List, [], ◌∷◌, length, Option, Some, None}
use Rattle.std.specs.Prelude.{◌==◌, nat_lt, is_some, option_map}
use Rattle.std.specs.List.{list_all, list_any}
use Rattle.std.specs.Option.{option_map_or}
use Rattle.std.proofs.lemmas.Bool.{eqb-true}
use Rattle.hem_base.specs.declared.ids.Message.{Message}
use Rattle.hem_base.specs.declared.ids.MsgId.{MsgId}
use Rattle.hem_base.specs.declared.ids.Kind.{Kind}
use Rattle.hem_base.specs.declared.ids.Kind.TheVariants.{Root, Mid, Leaf}
use Rattle.hem_syntax.specs.declared.rule.Class.{Class}
use Rattle.hem_syntax.specs.declared.rule.Class.TheVariants.{ExtReq, UpReq, DownReq}
use Rattle.hem_syntax.specs.declared.rule.Take.{Take}
use Rattle.hem_syntax.specs.declared.rule.Take.TheVariants as take
use Rattle.hem_syntax.specs.declared.rule.Value.{Value}
use Rattle.hem_syntax.specs.declared.rule.Value.TheVariants as value
use Rattle.hem_syntax.specs.declared.rule.Assign.{Assign}
use Rattle.hem_syntax.specs.declared.rule.Assign.TheVariants as assign
use Rattle.hem_syntax.specs.declared.rule.SendTo.{SendTo}
use Rattle.hem_syntax.specs.declared.rule.SendTo.TheVariants as send
use Rattle.hem_template.specs.declared.template_name.TemplateName.{TemplateName}
use Rattle.hem_template.specs.declared.template_name.TemplateName.TheVariants.{RqUp, RqUpSelf, RqUpDown, RqDownSelf, RqDownDown, RsDownRqDown}
use Rattle.hem_object.specs.declared.state.By.TheVariants.{Kid}
use Rattle.hem_object.specs.declared.state.View.{View}
use Rattle.hem_syntax.specs.Protocol.{Protocol, class_of, is_request}
use Rattle.hem_object.specs.Local.{Local}
use Rattle.hem_object.specs.Guard.{value_of, kids_of, is_requester}
use Rattle.hem_syntax.specs.Lawful.{Counts, has_assign}
use Rattle.hem_template.specs.declared.row.Row.{Row}
use Rattle.hem_template.specs.Template.{row_of, may_name_requester, is_leaf, take_class_fits, value_fits, value_sent, set_fits}
use Rattle.hem_syntax.specs.Protocol.{has_class, is_ext_req, is_up_req, is_down_req}
use Rattle.hem_template.specs.Rows.{set_value_fits}
use Rattle.hem_object.specs.Changes.{assign_names}
use Rattle.hem_fire.specs.Heads.{Heads, has_id, takes_there}
use Rattle.hem_fire.specs.View.{view_of}
use Rattle.hem_fire.specs.Locks.{if_request, first_of, request_in_hand, lock_names}
use Rattle.hem_module.specs.Step.{Held}
use Rattle.hem_rows.specs.Rows.{IsTaking, IsSending}
use Rattle.hem_rows.proofs.Choices.{both}
use Rattle.hem_emit.specs.Names.{Reg, Queue}
use Rattle.hem_emit.specs.Place.{Place, Asker, asker_of}
use Rattle.hem_emit.proofs.Tests.{any_alike, any_at, at_below}
use Rattle.hem_emit.proofs.Places.{requester-is}
use Rattle.hem_emit.proofs.Faced.{Faced}

pub and_both : (a b : Bool) → a ≡ true → b ≡ true → (a && b) ≡ true
and_both a b one other = cc

mapped_there : {A B : Type 0} (f : A → B) (o : Option A) → is_some o ≡ true → is_some (option_map f o) ≡ true
mapped_there f None there = cc
mapped_there f (Some x) there = refl

-- a request of an id of which requests are
pub class_kept : (p : Protocol) (id : MsgId) (test : Class → Bool) → ((c : Class) → test c ≡ true → is_request c ≡ true) → has_class p id test ≡ true → has_class p id is_request ≡ true
class_kept p id test kept has = of_class (class_of p id) has
  where
    of_class : (c : Option Class) → option_map_or test c false ≡ true → option_map_or is_request c false ≡ true
    of_class None has = cc
    of_class (Some c) has = kept c has

ext_requests : (c : Class) → is_ext_req c ≡ true → is_request c ≡ true
ext_requests ExtReq is = refl
ext_requests _ is = cc

up_requests : (c : Class) → is_up_req c ≡ true → is_request c ≡ true
up_requests UpReq is = refl
up_requests _ is = cc

pub down_requests : (c : Class) → is_down_req c ≡ true → is_request c ≡ true
down_requests DownReq is = refl
down_requests _ is = cc

-- what is taken from the requester is a request
pub me_class : (p : Protocol) (kind : Kind) (id : MsgId) → take_class_fits p kind (take.Me id) ≡ true → has_class p id is_request ≡ true
me_class p Leaf id fits = class_kept p id is_ext_req ext_requests fits
me_class p Root id fits = class_kept p id is_up_req up_requests fits
me_class p Mid id fits = class_kept p id is_up_req up_requests fits

-- an id of a number
pub same_id : (a b : MsgId) → (a.0 == b.0) ≡ true → a ≡ b
same_id a b same = ap (λ (n : ℕ). let i : MsgId = record { 0 = n } in i) (eqb-true a.0 b.0 same)

request_there : (p : Protocol) (head : Option Message) (id : MsgId) → has_id head id ≡ true → has_class p id is_request ≡ true → is_some (if_request p head) ≡ true
request_there p None id has class = cc
request_there p (Some m) id has class = by_class (ap (λ id. has_class p id is_request) (same_id m.id id has) ∙ class)
  where
    by_class : has_class p m.id is_request ≡ true → is_some (if_request p (Some m)) ≡ true
    by_class is = rw is refl

first_there : (x y : Option Message) → is_some x ≡ true → is_some (first_of x y) ≡ true
first_there None y there = cc
first_there (Some m) y there = refl

other_there : (x y : Option Message) → is_some y ≡ true → is_some (first_of x y) ≡ true
other_there None y there = there
other_there (Some m) y there = refl

module _ {at : Place} {s : Held Reg Queue} {who : Asker} {local : Local} {view : View} {row : Row} (faced : Faced at s who local view row) where
  pub value_is_there : (v : Value) → value_fits row v ≡ true → is_some (value_of v local view) ≡ true
  value_is_there value.Val fits = refl
  value_is_there value.Zero fits = refl
  value_is_there value.Msg fits = faced.msg fits
  value_is_there value.Kept fits = mapped_there (λ m. m.value) view.kept (faced.kept fits)
  value_is_there value.Rs fits = faced.rs fits

  me_is_there : (may_name_requester row && not (is_leaf at.kind)) ≡ true → list_any (λ k. is_requester view k.0) (kids_of local) ≡ true
  me_is_there may =
      let kid = faced.kid may in
      let there = at_below local.dir kid.0 kid.1 in
      any_alike (λ k. is_requester view k.0) (λ k. kid.0 == k.0 && true) local.dir local.dir refl (λ k d e at_d at_e. requester-is view (Some (Kid kid.0)) k kid.2 ∙ sym (and_true_of (kid.0 == k)))
      ∙ any_at (λ k. true) kid.0 local.dir there.0 there.1
    where
      and_true_of : (b : Bool) → (b && true) ≡ b
      and_true_of true = refl
      and_true_of false = refl

  set_named : (n : Counts) → n.fields ≡ length local.fields → (a : Assign) → set_fits at.kind row a ≡ true → has_assign n a ≡ true → set_value_fits row a ≡ true → assign_names local view a ≡ true
  set_named n fields (assign.Field i status) fits known value = rw fields at ((both (nat_lt i n.fields) _ known).0)
  set_named n fields (assign.Val v) fits known value = value_is_there v value
  set_named n fields (assign.Me status) fits known value = me_is_there fits
  set_named n fields (assign.Targets status) fits known value = faced.awaited fits

  pub sets_named : (n : Counts) → n.fields ≡ length local.fields → (sets : List Assign) → list_all (set_fits at.kind row) sets ≡ true → list_all (has_assign n) sets ≡ true → list_all (set_value_fits row) sets ≡ true → list_all (assign_names local view) sets ≡ true
  sets_named n fields [] fits known values = refl
  sets_named n fields (a ∷ sets) fits known values =
      let f = both (set_fits at.kind row a) _ fits in
      let k = both (has_assign n a) _ known in
      let v = both (set_value_fits row a) _ values in
      and_both _ _ (set_named n fields a f.0 k.0 v.0) (sets_named n fields sets f.1 k.1 v.1)

-- the lock of a rule that has a template
module _ (at : Place) (me : Option ℕ) (local : Local) (heads : Heads) (s : Held Reg Queue) (p : Protocol) where
  pub lock_named : (t : TemplateName) (tk : Take) (to : SendTo) → Faced at s (asker_of tk me) local (view_of tk me local heads) (row_of t) → IsTaking p (row_of t).taking tk → IsSending p (row_of t).sending to → take_class_fits p at.kind tk ≡ true → takes_there tk local heads ≡ true → option_map_or (value_fits (row_of t)) (value_sent to) true ≡ true → lock_names (row_of t).locks (view_of tk me local heads) (request_in_hand p tk to local (view_of tk me local heads) heads) ≡ true
  lock_named RqUp (take.Me id) to faced is sends class there value = request_there p heads.request id there (me_class p at.kind id class)
  lock_named RqUp _ to faced is sends class there value = let e = is.1 in cc
  lock_named RqUpDown (take.Me id) to faced is sends class there value = request_there p heads.request id there (me_class p at.kind id class)
  lock_named RqUpDown _ to faced is sends class there value = let e = is.1 in cc
  lock_named RqUpSelf take.Nothing (send.Parent id v) faced is sends class there value = mapped_there _ (value_of v local (view_of take.Nothing me local heads)) (value_is_there faced v value)
  lock_named RqUpSelf take.Nothing _ faced is sends class there value = let e = sends.2 in cc
  lock_named RqUpSelf _ to faced is sends class there value = cc
  lock_named RqDownSelf take.Nothing (send.Kids set id v) faced is sends class there value = mapped_there _ (value_of v local (view_of take.Nothing me local heads)) (value_is_there faced v value)
  lock_named RqDownSelf take.Nothing _ faced is sends class there value = let e = sends.3 in cc
  lock_named RqDownSelf _ to faced is sends class there value = cc
  lock_named RqDownDown (take.Parent id) to faced is sends class there value =
      let same : is.0 ≡ id = (let e = is.1 in cc) in
      first_there _ _ (request_there p heads.parent id there (class_kept p id is_down_req down_requests (ap (λ id. has_class p id is_down_req) (sym same) ∙ is.2)))
  lock_named RqDownDown _ to faced is sends class there value = let e = is.1 in cc
  lock_named RsDownRqDown (take.Parent id) to faced is sends class there value = and_both _ _ (faced.requester refl) (other_there _ _ (faced.kept refl))
  lock_named RsDownRqDown _ to faced is sends class there value = let e = is.1 in cc
  lock_named _ tk to faced is sends class there value = refl
