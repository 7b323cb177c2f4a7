-- The rules that answer or pass on a parent's request do the same with another uplock.
use Rattle.std.proofs.Common.{◌≡◌, refl, ap, sym, ◌∙◌, ℕ, true, false, not, cond, ◌&&◌, List, [], Option, Some, None}
use Rattle.std.specs.Prelude.{◌==◌, is_some}
use Rattle.std.specs.Option.{option_map_or}
use Rattle.std.proofs.lemmas.Bool.{eqb-true}
use Rattle.hem_base.specs.declared.ids.Message.{Message}
use Rattle.hem_base.specs.declared.ids.MsgId.{MsgId}
use Rattle.hem_base.specs.declared.ids.RuleId.{RuleId}
use Rattle.hem_base.specs.declared.ids.Kind.{Kind}
use Rattle.hem_syntax.specs.declared.rule.Rule.{Rule}
use Rattle.hem_syntax.specs.declared.rule.Take.TheVariants as take
use Rattle.hem_syntax.specs.declared.rule.Hold.TheVariants as hold
use Rattle.hem_syntax.specs.declared.rule.Side.TheVariants as side
use Rattle.hem_syntax.specs.declared.rule.Origin.TheVariants as origin
use Rattle.hem_syntax.specs.declared.rule.Atom.{Atom}
use Rattle.hem_syntax.specs.declared.rule.Value.{Value}
use Rattle.hem_syntax.specs.declared.rule.Assign.{Assign}
use Rattle.hem_syntax.specs.declared.rule.SendTo.TheVariants as send
use Rattle.hem_template.specs.declared.template_name.TemplateName.TheVariants.{ImmUp, RqDownDown, RsUpUp}
use Rattle.hem_object.specs.declared.state.Lock.{Lock}
use Rattle.hem_base.specs.declared.ids.StatusSet.{StatusSet}
use Rattle.hem_syntax.specs.declared.rule.Class.{Class}
use Rattle.hem_syntax.specs.declared.rule.Class.TheVariants.{DownReq}
use Rattle.hem_fire.specs.declared.outs.Outs.{Outs}
use Rattle.hem_syntax.specs.Protocol.{Protocol, class_of, is_request, has_class, is_down_req}
use Rattle.hem_object.specs.Local.{Local}
use Rattle.hem_object.specs.Guard.{value_of}
use Rattle.hem_fire.specs.OneFire.{Heads, local_after}
use Rattle.hem_fire.specs.View.{view_of}
use Rattle.hem_fire.specs.Heads.{has_id}
use Rattle.hem_fire.specs.Locks.{if_request, first_of, lock_names, lock_taken, request_in_hand}
use Rattle.hem_object.specs.Changes.{freed, locked}
use Rattle.hem_object.specs.Targets.{targets_of}
use Rattle.hem_template.specs.Template.{row_of, value_fits}
use Rattle.hem_rows.proofs.Choices.{both}
use Rattle.hem_rows.proofs.Possible.{can_parts}
use Rattle.hem_abstract.proofs.UplockUnseen.{with_up, AreAlike, guard-frame, value-frame, all-names-frame, assigned-frame}
use Rattle.hem_abstract.proofs.OneRule.{can-whole, NamesFit, Does, send-parent-same}

-- an immediate answer upward, with all that its template fixes
abbrev pub imm_up : RuleId → MsgId → List Atom → List Assign → MsgId → Value → Rule
imm_up name id guard sets answer v =
    record { name = name; take = take.Parent id; need = record { up = hold.Any; down = hold.Free }; guard = guard; sets = sets; free = None; lock = None; send = send.Parent answer v }

-- the views of an immediate answer with either uplock are alike
imm-alike : (id : MsgId) (me : Option ℕ) (local : Local) (heads : Heads) (x : Option Lock) → AreAlike (row_of ImmUp) (view_of (take.Parent id) me local heads) (view_of (take.Parent id) me (with_up x local) heads)
imm-alike id me local heads x = record { no_me = refl; msg = refl; rs = refl; awaited = refl; kept = λ kept. cc }

-- an immediate answer is the same with another uplock
pub imm-frame : (p : Protocol) (kind : Kind) (name : RuleId) (id : MsgId) (guard : List Atom) (sets : List Assign) (answer : MsgId) (v : Value) (me : Option ℕ) (local : Local) (heads : Heads) (next : Local) (outs : Outs) (x : Option Lock) → NamesFit p kind (imm_up name id guard sets answer v) (row_of ImmUp) → Does p kind (imm_up name id guard sets answer v) me local heads next outs → Does p kind (imm_up name id guard sets answer v) me (with_up x local) heads (with_up x next) outs
imm-frame p kind name id guard sets answer v me local heads next outs x names does =
    let rule = imm_up name id guard sets answer v in
    let parts = can_parts p kind rule me local heads does.can in
    let alike = imm-alike id me local heads x in
    let a = view_of (take.Parent id) me local heads in
    let b = view_of (take.Parent id) me (with_up x local) heads in
    let value = value-frame (row_of ImmUp) local x a b v alike (both (value_fits (row_of ImmUp) v) true names.sent).0 in
    record {
      can = can-whole p kind rule me (with_up x local) heads (record {
        fits = parts.fits;
        takes = parts.takes;
        up = refl;
        down = parts.down;
        sets = sym (all-names-frame kind (row_of ImmUp) local x a b sets alike names.sets names.set_values) ∙ parts.sets;
        lock = refl;
        guard = sym (guard-frame p kind (row_of ImmUp) local x a b guard alike names.guard) ∙ parts.guard;
        send = send-parent-same kind answer v local (with_up x local) a b value parts.send;
      });
      leaves = sym (assigned-frame kind (row_of ImmUp) x a b sets local alike names.sets names.set_values) ∙ ap (with_up x) does.leaves;
      gives = (let w : value_of v (with_up x local) b ≡ value_of v local a = sym value in rw w refl) ∙ does.gives;
    }

-- a request that is passed on to the children, with all that its template fixes
abbrev pub rq_down_down : RuleId → MsgId → List Atom → StatusSet → MsgId → Value → Rule
rq_down_down name id guard set request v =
    record { name = name; take = take.Parent id; need = record { up = hold.Any; down = hold.Free }; guard = guard; sets = []; free = None; lock = Some (side.Down, origin.Parent); send = send.Kids set request v }

-- a message that is taken as a request is one that a lock keeps
down-request : (c : Class) → is_down_req c ≡ true → is_request c ≡ true
down-request DownReq is = refl
down-request _ is = cc

pub request-kept : (p : Protocol) (id : MsgId) (head : Option Message) → has_id head id ≡ true → has_class p id is_down_req ≡ true → (m : Message) × (if_request p head ≡ Some m)
request-kept p id None has class = cc
request-kept p id (Some m) has class =
    let same : m.id.0 ≡ id.0 = eqb-true m.id.0 id.0 has in
    let known : option_map_or is_down_req (class_of p m.id) false ≡ true = ap (λ n. option_map_or is_down_req (class_of p (let i : MsgId = record { 0 = n } in i)) false) same ∙ class in
    let asks : option_map_or is_request (class_of p m.id) false ≡ true = by_class (class_of p m.id) known in
    (m, ap (λ b. cond b (Some m) None) asks)
  where
    by_class : (c : Option Class) → option_map_or is_down_req c false ≡ true → option_map_or is_request c false ≡ true
    by_class None known = cc
    by_class (Some c) known = down-request c known

-- a request that is passed on is the same with another uplock
pub rq_down_down-frame : (p : Protocol) (kind : Kind) (name : RuleId) (id : MsgId) (guard : List Atom) (set : StatusSet) (request : MsgId) (v : Value) (me : Option ℕ) (local : Local) (heads : Heads) (next : Local) (outs : Outs) (x : Option Lock) → has_class p id is_down_req ≡ true → NamesFit p kind (rq_down_down name id guard set request v) (row_of RqDownDown) → Does p kind (rq_down_down name id guard set request v) me local heads next outs → Does p kind (rq_down_down name id guard set request v) me (with_up x local) heads (with_up x next) outs
rq_down_down-frame p kind name id guard set request v me local heads next outs x class names does =
    let rule = rq_down_down name id guard set request v in
    let parts = can_parts p kind rule me local heads does.can in
    let a = view_of (take.Parent id) me local heads in
    let b = view_of (take.Parent id) me (with_up x local) heads in
    let alike : AreAlike (row_of RqDownDown) a b = record { no_me = refl; msg = refl; rs = refl; awaited = refl; kept = λ kept. cc } in
    let value = value-frame (row_of RqDownDown) local x a b v alike (both (value_fits (row_of RqDownDown) v) true names.sent).0 in
    let taken = request-kept p id heads.parent parts.takes class in
    let targets = targets_of (send.Kids set request v) local a in
    let hand_a : request_in_hand p (take.Parent id) (send.Kids set request v) local a heads ≡ Some taken.0 = ap (λ r. first_of r a.kept) taken.1 in
    let hand_b : request_in_hand p (take.Parent id) (send.Kids set request v) (with_up x local) b heads ≡ Some taken.0 = ap (λ r. first_of r b.kept) taken.1 in
    let after_a : local_after p kind rule me local heads ≡ option_map_or (λ l. locked l.0 l.1 local) (lock_taken (Some (side.Down, origin.Parent)) a (Some taken.0) targets) local = ap (λ r. option_map_or (λ l. locked l.0 l.1 local) (lock_taken (Some (side.Down, origin.Parent)) a r targets) local) hand_a in
    let after_b : local_after p kind rule me (with_up x local) heads ≡ option_map_or (λ l. locked l.0 l.1 (with_up x local)) (lock_taken (Some (side.Down, origin.Parent)) b (Some taken.0) targets) (with_up x local) = ap (λ r. option_map_or (λ l. locked l.0 l.1 (with_up x local)) (lock_taken (Some (side.Down, origin.Parent)) b r targets) (with_up x local)) hand_b in
    record {
      can = can-whole p kind rule me (with_up x local) heads (record {
        fits = parts.fits;
        takes = parts.takes;
        up = refl;
        down = parts.down;
        sets = refl;
        lock = ap (lock_names (Some (side.Down, origin.Parent)) b) hand_b;
        guard = sym (guard-frame p kind (row_of RqDownDown) local x a b guard alike names.guard) ∙ parts.guard;
        send = ap (λ o. is_some o && not (targets.0 == 0)) (sym value) ∙ parts.send;
      });
      leaves = after_b ∙ ap (with_up x) (sym after_a ∙ does.leaves);
      gives = (let w : value_of v (with_up x local) b ≡ value_of v local a = sym value in rw w refl) ∙ does.gives;
    }

-- an answer after those of the children, with all that its template fixes
abbrev pub rs_up_up : RuleId → MsgId → List Atom → List Assign → MsgId → Value → Rule
rs_up_up name id guard sets answer v =
    record { name = name; take = take.Kids id; need = record { up = hold.Any; down = hold.Parent }; guard = guard; sets = sets; free = Some side.Down; lock = None; send = send.Parent answer v }

-- an answer after those of the children is the same with another uplock
pub rs_up_up-frame : (p : Protocol) (kind : Kind) (name : RuleId) (id : MsgId) (guard : List Atom) (sets : List Assign) (answer : MsgId) (v : Value) (me : Option ℕ) (local : Local) (heads : Heads) (next : Local) (outs : Outs) (x : Option Lock) → NamesFit p kind (rs_up_up name id guard sets answer v) (row_of RsUpUp) → Does p kind (rs_up_up name id guard sets answer v) me local heads next outs → Does p kind (rs_up_up name id guard sets answer v) me (with_up x local) heads (with_up x next) outs
rs_up_up-frame p kind name id guard sets answer v me local heads next outs x names does =
    let rule = rs_up_up name id guard sets answer v in
    let parts = can_parts p kind rule me local heads does.can in
    let a = view_of (take.Kids id) me local heads in
    let b = view_of (take.Kids id) me (with_up x local) heads in
    let alike : AreAlike (row_of RsUpUp) a b = record { no_me = refl; msg = refl; rs = refl; awaited = refl; kept = λ kept. refl } in
    let value = value-frame (row_of RsUpUp) local x a b v alike (both (value_fits (row_of RsUpUp) v) true names.sent).0 in
    record {
      can = can-whole p kind rule me (with_up x local) heads (record {
        fits = parts.fits;
        takes = parts.takes;
        up = refl;
        down = parts.down;
        sets = sym (all-names-frame kind (row_of RsUpUp) local x a b sets alike names.sets names.set_values) ∙ parts.sets;
        lock = refl;
        guard = sym (guard-frame p kind (row_of RsUpUp) local x a b guard alike names.guard) ∙ parts.guard;
        send = send-parent-same kind answer v local (with_up x local) a b value parts.send;
      });
      leaves = sym (ap (freed (Some side.Down)) (assigned-frame kind (row_of RsUpUp) x a b sets local alike names.sets names.set_values)) ∙ ap (with_up x) does.leaves;
      gives = (let w : value_of v (with_up x local) b ≡ value_of v local a = sym value in rw w refl) ∙ does.gives;
    }
