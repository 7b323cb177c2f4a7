-- A rule of a template that waits above, or of one that works downward, written out.
use Rattle.std.proofs.Common.{◌≡◌, refl, sym, subst, ℕ, true, List, [], Option, Some, None}
use Rattle.hem_base.specs.declared.ids.MsgId.{MsgId}
use Rattle.hem_base.specs.declared.ids.StatusSet.{StatusSet}
use Rattle.hem_base.specs.declared.ids.Kind.{Kind}
use Rattle.hem_syntax.specs.declared.rule.Rule.{Rule}
use Rattle.hem_syntax.specs.declared.rule.Value.{Value}
use Rattle.hem_syntax.specs.declared.rule.Assign.{Assign}
use Rattle.hem_syntax.specs.declared.rule.Take.{Take}
use Rattle.hem_syntax.specs.declared.rule.Take.TheVariants as take
use Rattle.hem_syntax.specs.declared.rule.Hold.{Hold}
use Rattle.hem_syntax.specs.declared.rule.Hold.TheVariants as hold
use Rattle.hem_syntax.specs.declared.rule.Side.{Side}
use Rattle.hem_syntax.specs.declared.rule.Side.TheVariants as side
use Rattle.hem_syntax.specs.declared.rule.Origin.{Origin}
use Rattle.hem_syntax.specs.declared.rule.Origin.TheVariants as origin
use Rattle.hem_syntax.specs.declared.rule.SendTo.{SendTo}
use Rattle.hem_syntax.specs.declared.rule.SendTo.TheVariants as send
use Rattle.hem_template.specs.declared.template_name.TemplateName.TheVariants.{ImmUp, RqUp, RqUpSelf, RqDownDown, RsUpUp}
use Rattle.hem_object.specs.declared.state.Lock.{Lock}
use Rattle.hem_fire.specs.declared.outs.Outs.{Outs}
use Rattle.hem_syntax.specs.Protocol.{Protocol, has_class, is_down_req}
use Rattle.hem_object.specs.Local.{Local}
use Rattle.hem_template.specs.Template.{row_of, names_fit}
use Rattle.hem_fire.specs.OneFire.{Heads}
use Rattle.hem_rows.specs.Rows.{IsOfRow}
use Rattle.hem_abstract.proofs.UplockUnseen.{with_up}
use Rattle.hem_abstract.proofs.OneRule.{Does, names-parts}
use Rattle.hem_abstract.proofs.DownwardFrames.{imm_up, rq_down_down, rs_up_up, imm-frame, rq_down_down-frame, rs_up_up-frame}
use Rattle.hem_abstract.proofs.UpwardMoves.{rq_up}

-- a rule by its fields
rule-by : (rule : Rule) (t : Take) (up down : Hold) (sets : List Assign) (f : Option Side) (lock : Option (Side × Origin)) (s : SendTo) → rule.take ≡ t → rule.need.up ≡ up → rule.need.down ≡ down → rule.sets ≡ sets → rule.free ≡ f → rule.lock ≡ lock → rule.send ≡ s → rule ≡ (let r : Rule = record { name = rule.name; take = t; need = record { up = up; down = down }; guard = rule.guard; sets = sets; free = f; lock = lock; send = s } in r)
rule-by rule t need_up need_down sets f lock s a b c d e g h = rw (← a, ← b, ← c, ← d, ← e, ← g, ← h) refl

-- requests that wait above
pub is-rq_up : (p : Protocol) (kind : Kind) (rule : Rule) → IsOfRow p kind rule RqUp → (id : MsgId) × (request : MsgId) × (v : Value) × (rule ≡ rq_up rule.name (take.Me id) rule.guard origin.Child request v)
is-rq_up p kind rule of =
    let t = of.taking in
    let s = of.sending in
    (t.0, s.0, s.1, rule-by rule (take.Me t.0) hold.Free hold.Free [] None (Some (side.Up, origin.Child)) (send.Parent s.0 s.1) t.1 of.up of.down (of.silent refl) of.free of.lock s.2)

pub is-rq_up_self : (p : Protocol) (kind : Kind) (rule : Rule) → IsOfRow p kind rule RqUpSelf → (request : MsgId) × (v : Value) × (rule ≡ rq_up rule.name take.Nothing rule.guard origin.Own request v)
is-rq_up_self p kind rule of =
    let s = of.sending in
    (s.0, s.1, rule-by rule take.Nothing hold.Free hold.Free [] None (Some (side.Up, origin.Own)) (send.Parent s.0 s.1) of.taking of.up of.down (of.silent refl) of.free of.lock s.2)

-- what works downward
pub is-imm_up : (p : Protocol) (kind : Kind) (rule : Rule) → IsOfRow p kind rule ImmUp → (id : MsgId) × (answer : MsgId) × (v : Value) × (rule ≡ imm_up rule.name id rule.guard rule.sets answer v)
is-imm_up p kind rule of =
    let t = of.taking in
    let s = of.sending in
    (t.0, s.0, s.1, rule-by rule (take.Parent t.0) hold.Any hold.Free rule.sets None None (send.Parent s.0 s.1) t.1 of.up of.down refl of.free of.lock s.2)

pub is-rq_down_down : (p : Protocol) (kind : Kind) (rule : Rule) → IsOfRow p kind rule RqDownDown → (id : MsgId) × (set : StatusSet) × (request : MsgId) × (v : Value) × (has_class p id is_down_req ≡ true) × (rule ≡ rq_down_down rule.name id rule.guard set request v)
is-rq_down_down p kind rule of =
    let t = of.taking in
    let s = of.sending in
    (t.0, s.0, s.1, s.2, t.2, rule-by rule (take.Parent t.0) hold.Any hold.Free [] None (Some (side.Down, origin.Parent)) (send.Kids s.0 s.1 s.2) t.1 of.up of.down (of.silent refl) of.free of.lock s.3)

pub is-rs_up_up : (p : Protocol) (kind : Kind) (rule : Rule) → IsOfRow p kind rule RsUpUp → (id : MsgId) × (answer : MsgId) × (v : Value) × (rule ≡ rs_up_up rule.name id rule.guard rule.sets answer v)
is-rs_up_up p kind rule of =
    let t = of.taking in
    let s = of.sending in
    (t.0, s.0, s.1, rule-by rule (take.Kids t.0) hold.Any hold.Parent rule.sets (Some side.Down) None (send.Parent s.0 s.1) t.1 of.up of.down refl of.free of.lock s.2)

-- each of them does the same with another uplock
pub imm_up-unseen : (p : Protocol) (kind : Kind) (rule : Rule) (me : Option ℕ) (local : Local) (heads : Heads) (next : Local) (outs : Outs) (x : Option Lock) → IsOfRow p kind rule ImmUp → Does p kind rule me local heads next outs → Does p kind rule me (with_up x local) heads (with_up x next) outs
imm_up-unseen p kind rule me local heads next outs x of does =
    let form = is-imm_up p kind rule of in
    let written = imm_up rule.name form.0 rule.guard rule.sets form.1 form.2 in
    let names = names-parts p kind written (row_of ImmUp) (subst (λ r. names_fit p kind r (row_of ImmUp) ≡ true) form.3 of.names) in
    subst (λ r. Does p kind r me (with_up x local) heads (with_up x next) outs) (sym form.3)
    (imm-frame p kind rule.name form.0 rule.guard rule.sets form.1 form.2 me local heads next outs x names (subst (λ r. Does p kind r me local heads next outs) form.3 does))

pub rq_down_down-unseen : (p : Protocol) (kind : Kind) (rule : Rule) (me : Option ℕ) (local : Local) (heads : Heads) (next : Local) (outs : Outs) (x : Option Lock) → IsOfRow p kind rule RqDownDown → Does p kind rule me local heads next outs → Does p kind rule me (with_up x local) heads (with_up x next) outs
rq_down_down-unseen p kind rule me local heads next outs x of does =
    let form = is-rq_down_down p kind rule of in
    let written = rq_down_down rule.name form.0 rule.guard form.1 form.2 form.3 in
    let names = names-parts p kind written (row_of RqDownDown) (subst (λ r. names_fit p kind r (row_of RqDownDown) ≡ true) form.5 of.names) in
    subst (λ r. Does p kind r me (with_up x local) heads (with_up x next) outs) (sym form.5)
    (rq_down_down-frame p kind rule.name form.0 rule.guard form.1 form.2 form.3 me local heads next outs x form.4 names (subst (λ r. Does p kind r me local heads next outs) form.5 does))

pub rs_up_up-unseen : (p : Protocol) (kind : Kind) (rule : Rule) (me : Option ℕ) (local : Local) (heads : Heads) (next : Local) (outs : Outs) (x : Option Lock) → IsOfRow p kind rule RsUpUp → Does p kind rule me local heads next outs → Does p kind rule me (with_up x local) heads (with_up x next) outs
rs_up_up-unseen p kind rule me local heads next outs x of does =
    let form = is-rs_up_up p kind rule of in
    let written = rs_up_up rule.name form.0 rule.guard rule.sets form.1 form.2 in
    let names = names-parts p kind written (row_of RsUpUp) (subst (λ r. names_fit p kind r (row_of RsUpUp) ≡ true) form.3 of.names) in
    subst (λ r. Does p kind r me (with_up x local) heads (with_up x next) outs) (sym form.3)
    (rs_up_up-frame p kind rule.name form.0 rule.guard rule.sets form.1 form.2 me local heads next outs x names (subst (λ r. Does p kind r me local heads next outs) form.3 does))
