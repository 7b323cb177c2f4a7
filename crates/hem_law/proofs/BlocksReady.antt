-- After whole downward blocks that don't break it a waiting request could be made instead.
use Rattle.std.proofs.Common.{◌≡◌, refl, ap, sym, ◌∙◌, subst, ℕ, true, false, List, [], ◌∷◌, map, Option, Some, None, inl, inr}
use Rattle.std.specs.Prelude.{option_and_then, Result, Ok, Err}
use Rattle.hem_base.specs.declared.ids.RuleId.{RuleId}
use Rattle.hem_base.specs.declared.ids.Kind.{Kind}
use Rattle.hem_syntax.specs.declared.rule.Rule.{Rule}
use Rattle.hem_syntax.specs.declared.rule.Take.TheVariants as take
use Rattle.hem_syntax.specs.declared.rule.Assign.{Assign}
use Rattle.hem_syntax.specs.declared.rule.Assign.TheVariants as assign
use Rattle.hem_template.specs.declared.clause.Clause.{Clause}
use Rattle.hem_template.specs.declared.template_name.TemplateName.{TemplateName}
use Rattle.hem_template.specs.declared.template_name.TemplateName.TheVariants.{ImmUp, RqDownDown, RsUpUp}
use Rattle.hem_object.specs.declared.state.View.{View}
use Rattle.hem_syntax.specs.Protocol.{Protocol, rule_named}
use Rattle.hem_object.specs.Local.{Local}
use Rattle.hem_syntax.specs.Lawful.{set_once}
use Rattle.hem_template.specs.Template.{template_of}
use Rattle.hem_tree.specs.Tree.{Tree, kind_of}
use Rattle.hem_object.specs.Changes.{assign_own, assign_targets, assign_me, in_turn, assigned}
use Rattle.hem_fire.specs.declared.outs.Outs.{Outs}
use Rattle.hem_fire.specs.OneFire.{Heads}
use Rattle.hem_fire.specs.View.{view_of}
use Rattle.hem_system.specs.State.{place_of_me}
use Rattle.hem_system.specs.Events.{Event}
use Rattle.hem_trace.specs.Blocks.{Each}
use Rattle.hem_trace.specs.Order.{Entry}
use Rattle.hem_law.specs.Chains.{heads_seen, ChainStep, IsChain}
use Rattle.hem_law.specs.Printed.{event_of}
use Rattle.hem_template.specs.Waiting.{template_if}
use Rattle.hem_trace.specs.Templates.{template_at}
use Rattle.hem_law.specs.Windows.{AreWholeBlocks}
use Rattle.hem_abstract.specs.Abstract.{guard_at, abstract_of, AreSmall}
use Rattle.hem_abstract.specs.Partners.{Partner, alone, pair, breaks, IsPartner}
use Rattle.hem_law.proofs.OwnEffect.{own_effect-parts}
use Rattle.hem_rows.specs.Rows.{IsOfRow}
use Rattle.hem_rows.proofs.Rows.{of_row}
use Rattle.hem_abstract.proofs.OneRule.{Does}
use Rattle.hem_abstract.proofs.DownwardFrames.{imm_up, rs_up_up}
use Rattle.hem_abstract.proofs.TemplateForms.{is-imm_up, is-rs_up_up}
use Rattle.hem_law.proofs.Pending.{does-from}
use Rattle.hem_abstract.proofs.PartnersKeep.{alone-keeps, pair-keeps}
use Rattle.hem_abstract.specs.Exact.{StillStands}

-- the sets leave the downlock
turns-down : (change : Assign → Local → Local) (sets : List Assign) (local : Local) → ((a : Assign) (l : Local) → (change a l).down ≡ l.down) → (in_turn change sets local).down ≡ local.down
turns-down change [] local keeps = refl
turns-down change (a ∷ sets) local keeps = turns-down change sets (change a local) keeps ∙ keeps a local

own-down : (before : Local) (view : View) (a : Assign) (l : Local) → (assign_own before view a l).down ≡ l.down
own-down before view (assign.Field i s) l = refl
own-down before view (assign.Val v) l = refl
own-down before view (assign.Me s) l = refl
own-down before view (assign.Targets s) l = refl

targets-down : (view : View) (a : Assign) (l : Local) → (assign_targets view a l).down ≡ l.down
targets-down view (assign.Field i s) l = refl
targets-down view (assign.Val v) l = refl
targets-down view (assign.Me s) l = refl
targets-down view (assign.Targets s) l = refl

me-down : (view : View) (a : Assign) (l : Local) → (assign_me view a l).down ≡ l.down
me-down view (assign.Field i s) l = refl
me-down view (assign.Val v) l = refl
me-down view (assign.Me s) l = refl
me-down view (assign.Targets s) l = refl

assigned-down : (view : View) (sets : List Assign) (local : Local) → (assigned sets view local).down ≡ local.down
assigned-down view sets local =
    turns-down (assign_me view) sets _ (me-down view)
    ∙ turns-down (assign_targets view) sets _ (targets-down view)
    ∙ turns-down (assign_own local view) sets local (own-down local view)

-- an answer at once leaves the downlock, and one after the children's frees it
imm_up-down : (p : Protocol) (kind : Kind) (d : Rule) (me : Option ℕ) (local : Local) (heads : Heads) (next : Local) (outs : Outs) → IsOfRow p kind d ImmUp → Does p kind d me local heads next outs → next.down ≡ local.down
imm_up-down p kind d me local heads next outs of does =
    let form = is-imm_up p kind d of in
    let written : Does p kind (imm_up d.name form.0 d.guard d.sets form.1 form.2) me local heads next outs = subst (λ r. Does p kind r me local heads next outs) form.3 does in
    ap (λ (l : Local). l.down) (sym written.leaves) ∙ assigned-down (view_of (take.Parent form.0) me local heads) d.sets local

rs_up_up-down : (p : Protocol) (kind : Kind) (r : Rule) (me : Option ℕ) (local : Local) (heads : Heads) (next : Local) (outs : Outs) → IsOfRow p kind r RsUpUp → Does p kind r me local heads next outs → next.down ≡ None
rs_up_up-down p kind r me local heads next outs of does =
    let form = is-rs_up_up p kind r of in
    let written : Does p kind (rs_up_up r.name form.0 r.guard r.sets form.1 form.2) me local heads next outs = subst (λ x. Does p kind x me local heads next outs) form.3 does in
    ap (λ (l : Local). l.down) (sym written.leaves)

-- an event's rule, of its template
record IsMade (p : Protocol) (tree : Tree) (kind : Kind) (local : Local) (e : Event) (next : Local) (t : TemplateName) : Type 0 where
  rule : Rule
  named : rule_named p kind e.firing.rule ≡ Some rule
  template : template_of p kind rule ≡ Ok t
  does : Does p kind rule (place_of_me tree e.firing.object.0 e.firing.me) local (heads_seen tree e) next e.outs

pub if-template : (r : Result TemplateName Clause) (t : TemplateName) → template_if r ≡ Some t → r ≡ Ok t
if-template (Ok u) t is = let same : u ≡ t = cc in ap Ok same
if-template (Err c) t is = cc

made-of : (p : Protocol) (tree : Tree) (kind : Kind) (local : Local) (e : Event) (next : Local) (t : TemplateName) → kind_of tree e.firing.object.0 ≡ Some kind → template_at p tree e.firing ≡ Some t → ChainStep p tree (Some local) e next → IsMade p tree kind local e next t
made-of p tree kind local e next t there template step =
    let same : step.now ≡ local = (let here : Some local ≡ Some step.now = step.here in cc) in
    let parts = own_effect-parts p tree e.firing step.now (heads_seen tree e) (record { after = next; took = e.took; outs = e.outs }) step.fires in
    let does = (does-from p tree e.firing step.now (heads_seen tree e) (record { after = next; took = e.took; outs = e.outs }) parts).0 in
    let kind_is : parts.kind ≡ kind = (let both : Some parts.kind ≡ Some kind = sym parts.there ∙ there in cc) in
    let named : rule_named p kind e.firing.rule ≡ Some parts.rule = subst (λ k. rule_named p k e.firing.rule ≡ Some parts.rule) kind_is parts.named in
    let found : template_if (template_of p kind parts.rule) ≡ Some t = sym (ap (option_and_then (λ kind. option_and_then (λ rule. template_if (template_of p kind rule)) (rule_named p kind e.firing.rule))) there ∙ ap (option_and_then (λ rule. template_if (template_of p kind rule))) named) ∙ template in
    record {
      rule = parts.rule;
      named = named;
      template = if-template (template_of p kind parts.rule) t found;
      does = subst (λ k. Does p k parts.rule (place_of_me tree e.firing.object.0 e.firing.me) local (heads_seen tree e) next e.outs) kind_is (subst (λ l. Does p parts.kind parts.rule (place_of_me tree e.firing.object.0 e.firing.me) l (heads_seen tree e) next e.outs) same does);
    }

-- what stands of a request after one state and another
stands-on : (u : Rule) (a b c : Local) → StillStands u a b → StillStands u b c → StillStands u a c
stands-on u a b c one two = record { guard = two.guard; value = λ sends. two.value sends ∙ one.value sends }

-- local states of which each firing leads to another, with statuses that guards can see, in which no partner breaks the request
pub record IsSteady (p : Protocol) (tree : Tree) (kind : Kind) (u : Rule) (Fits : Local → Type 0) : Type 0 where
  pub closed : (local next : Local) (e : Event) → kind_of tree e.firing.object.0 ≡ Some kind → ChainStep p tree (Some local) e next → Fits local → Fits next
  pub small : (local : Local) → Fits local → AreSmall local.dir
  pub once : (name : RuleId) (rule : Rule) → rule_named p kind name ≡ Some rule → set_once rule.sets ≡ true
  pub whole : (d : Partner) (local : Local) → IsPartner p kind d → Fits local → breaks u d (abstract_of local) ≡ false

-- after whole blocks the request stands and the downlock is free
pub blocks-stand : (p : Protocol) (tree : Tree) (kind : Kind) (u : Rule) (Fits : Local → Type 0) → IsSteady p tree kind u Fits → (xs : List Entry) (local end : Local) → Each (λ x. kind_of tree x.event.firing.object.0 ≡ Some kind) xs → AreWholeBlocks p tree xs → IsChain p tree (Some local) (map event_of xs) (Some end) → Fits local → guard_at u.guard (abstract_of local) None ≡ true → local.down ≡ None → StillStands u local end × (end.down ≡ None)
blocks-stand p tree kind u Fits steady [] local end kinds blocks chain fits guarded free =
    let same : local ≡ end = cc in
    (record { guard = subst (λ l. guard_at u.guard (abstract_of l) None ≡ true) same guarded; value = λ sends. ap (λ (l : Local). l.val) (sym same) }, ap (λ (l : Local). l.down) (sym same) ∙ free)
blocks-stand p tree kind u Fits steady (x ∷ []) local end kinds blocks chain fits guarded free =
    let made = made-of p tree kind local x.event chain.0 ImmUp kinds.0 blocks chain.1 in
    let of = of_row p kind made.rule ImmUp made.template in
    let stands = alone-keeps p kind u made.rule (place_of_me tree x.event.firing.object.0 x.event.firing.me) local (heads_seen tree x.event) chain.0 x.event.outs of (steady.once x.event.firing.rule made.rule made.named) (steady.small local fits) made.does guarded (steady.whole (alone made.rule) local (x.event.firing.rule, made.named, made.template) fits) in
    let down = imm_up-down p kind made.rule (place_of_me tree x.event.firing.object.0 x.event.firing.me) local (heads_seen tree x.event) chain.0 x.event.outs of made.does in
    let same : chain.0 ≡ end = (let last : Some chain.0 ≡ Some end = chain.2 in cc) in
    (subst (StillStands u local) same stands, ap (λ (l : Local). l.down) (sym same) ∙ down ∙ free)
blocks-stand p tree kind u Fits steady (x ∷ y ∷ xs) local end kinds (inl it) chain fits guarded free =
    let made = made-of p tree kind local x.event chain.0 ImmUp kinds.0 it.0 chain.1 in
    let of = of_row p kind made.rule ImmUp made.template in
    let stands = alone-keeps p kind u made.rule (place_of_me tree x.event.firing.object.0 x.event.firing.me) local (heads_seen tree x.event) chain.0 x.event.outs of (steady.once x.event.firing.rule made.rule made.named) (steady.small local fits) made.does guarded (steady.whole (alone made.rule) local (x.event.firing.rule, made.named, made.template) fits) in
    let down = imm_up-down p kind made.rule (place_of_me tree x.event.firing.object.0 x.event.firing.me) local (heads_seen tree x.event) chain.0 x.event.outs of made.does in
    let rest = blocks-stand p tree kind u Fits steady (y ∷ xs) chain.0 end kinds.1 it.1 chain.2 (steady.closed local chain.0 x.event kinds.0 chain.1 fits) stands.guard (down ∙ free) in
    (stands-on u local chain.0 end stands rest.0, rest.1)
blocks-stand p tree kind u Fits steady (x ∷ y ∷ xs) local end kinds (inr it) chain fits guarded free =
    let mid = chain.0 in
    let next = chain.2.0 in
    let first = made-of p tree kind local x.event mid RqDownDown kinds.0 it.0 chain.1 in
    let second = made-of p tree kind mid y.event next RsUpUp kinds.1.0 it.1 chain.2.1 in
    let of_q = of_row p kind first.rule RqDownDown first.template in
    let of_r = of_row p kind second.rule RsUpUp second.template in
    let stands = pair-keeps p kind u first.rule second.rule (place_of_me tree x.event.firing.object.0 x.event.firing.me) (place_of_me tree y.event.firing.object.0 y.event.firing.me) local (heads_seen tree x.event) (heads_seen tree y.event) mid next x.event.outs y.event.outs of_q of_r (steady.once y.event.firing.rule second.rule second.named) (steady.small local fits) first.does second.does guarded
    (steady.whole (pair first.rule second.rule) local (x.event.firing.rule, y.event.firing.rule, first.named, second.named, first.template, second.template) fits) in
    let down = rs_up_up-down p kind second.rule (place_of_me tree y.event.firing.object.0 y.event.firing.me) mid (heads_seen tree y.event) next y.event.outs of_r second.does in
    let fits_mid = steady.closed local mid x.event kinds.0 chain.1 fits in
    let rest = blocks-stand p tree kind u Fits steady xs next end kinds.1.1 it.2 chain.2.2 (steady.closed mid next y.event kinds.1.0 chain.2.1 fits_mid) stands.guard down in
    (stands-on u local next end stands rest.0, rest.1)
