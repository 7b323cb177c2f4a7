-- A window of whole downward blocks ends ready, where no partner breaks its request.
use Rattle.std.proofs.Common.{◌≡◌, refl, ap, sym, ◌∙◌, subst, ℕ, true, false, List, [], ◌∷◌, map, Option, Some, None, inl, inr}
use Rattle.std.specs.Prelude.{option_map, option_and_then, Result, Ok}
use Rattle.std.specs.List.{list_any}
use Rattle.std.specs.Option.{option_map_or}
use Rattle.hem_base.specs.declared.ids.Kind.{Kind}
use Rattle.hem_base.specs.declared.ids.Firing.{Firing}
use Rattle.hem_syntax.specs.declared.rule.Rule.{Rule}
use Rattle.hem_syntax.specs.declared.rule.Value.{Value}
use Rattle.hem_syntax.specs.declared.rule.Value.TheVariants as value
use Rattle.hem_syntax.specs.declared.rule.Take.{Take}
use Rattle.hem_template.specs.declared.clause.Clause.{Clause}
use Rattle.hem_template.specs.declared.template_name.TemplateName.{TemplateName}
use Rattle.hem_template.specs.declared.template_name.TemplateName.TheVariants.{ImmUp, RqUp, RqUpSelf, RqDownDown, RsUpUp}
use Rattle.hem_object.specs.declared.state.View.{View}
use Rattle.hem_syntax.specs.Protocol.{Protocol, rule_named}
use Rattle.hem_object.specs.Local.{Local}
use Rattle.hem_object.specs.Guard.{holds, value_of}
use Rattle.hem_template.specs.Template.{template_of, reads_me, value_sent}
use Rattle.hem_tree.specs.Tree.{Tree, kind_of}
use Rattle.hem_fire.specs.OneFire.{Heads}
use Rattle.hem_fire.specs.View.{view_of}
use Rattle.hem_system.specs.State.{place_of_me, own_effect}
use Rattle.hem_trace.specs.Blocks.{Each}
use Rattle.hem_trace.specs.Order.{Entry, is_upward}
use Rattle.hem_template.specs.Waiting.{is_upward_template, is_downward_template, template_if}
use Rattle.hem_law.specs.Chains.{heads_seen, IsChain}
use Rattle.hem_law.specs.Printed.{event_of}
use Rattle.hem_trace.specs.Templates.{is_downward, template_at}
use Rattle.hem_law.specs.Windows.{AreWholeBlocks, IsStillPossible, EndsReady}
use Rattle.hem_abstract.specs.Abstract.{guard_at, abstract_of, AreSmall}
use Rattle.hem_abstract.specs.Partners.{sends_val}
use Rattle.hem_rows.proofs.Choices.{if_some}
use Rattle.hem_law.proofs.OwnEffect.{own_effect-parts}
use Rattle.hem_abstract.proofs.Exact.{guard-exact}
use Rattle.hem_rows.proofs.Rows.{of_row}
use Rattle.hem_abstract.proofs.OneRule.{Does}
use Rattle.hem_law.proofs.Pending.{does-from, of-template, rule-free, rule-moves}
use Rattle.hem_abstract.proofs.PartnersKeep.{scope-none}
use Rattle.hem_syntax.specs.Lawful.{IsProtocol}
use Rattle.hem_abstract.specs.Stable.{first_unstable, IsOfKind}
use Rattle.hem_abstract.proofs.StableNever.{stable-never, of-kind-small}
use Rattle.hem_rows.proofs.Possible.{can_parts}
use Rattle.hem_law.proofs.KindKept.{sets-fit, of-kind-next}
use Rattle.hem_law.proofs.BlocksReady.{IsSteady, if-template, blocks-stand}

-- the firings of whole blocks work downward
template-down : (p : Protocol) (tree : Tree) (f : Firing) (t : TemplateName) → template_at p tree f ≡ Some t → is_downward_template (Ok t) ≡ true → is_downward p tree f ≡ true
template-down p tree f t is down =
    let kind = if_some (λ kind. option_and_then (λ rule. template_if (template_of p kind rule)) (rule_named p kind f.rule)) (kind_of tree f.object.0) t is in
    let rule = if_some (λ rule. template_if (template_of p kind.0 rule)) (rule_named p kind.0 f.rule) t kind.2 in
    let found = if-template (template_of p kind.0 rule.0) t rule.2 in
    ap (λ k. option_map_or (λ kind. option_map_or (λ rule. is_downward_template (template_of p kind rule)) (rule_named p kind f.rule) false) k false) kind.1
    ∙ ap (λ r. option_map_or (λ rule. is_downward_template (template_of p kind.0 rule)) r false) rule.1
    ∙ ap is_downward_template found
    ∙ down

blocks-down : (p : Protocol) (tree : Tree) (xs : List Entry) → AreWholeBlocks p tree xs → Each (λ x. is_downward p tree x.event.firing ≡ true) xs
blocks-down p tree [] blocks = tt
blocks-down p tree (x ∷ []) blocks = (template-down p tree x.event.firing ImmUp blocks refl, tt)
blocks-down p tree (x ∷ y ∷ xs) (inl it) = (template-down p tree x.event.firing ImmUp it.0 refl, blocks-down p tree (y ∷ xs) it.1)
blocks-down p tree (x ∷ y ∷ xs) (inr it) = (template-down p tree x.event.firing RqDownDown it.0 refl, (template-down p tree y.event.firing RsUpUp it.1 refl, blocks-down p tree xs it.2))

-- an upward request reads no request of a lock, neither the requester nor the others
reads-nothing : (p : Protocol) (kind : Kind) (u : Rule) (t : Result TemplateName Clause) → template_of p kind u ≡ t → is_upward_template t ≡ true → list_any reads_me u.guard ≡ false
reads-nothing p kind u (Ok RqUp) is upward = scope-none p kind u RqUp (of_row p kind u RqUp is) refl
reads-nothing p kind u (Ok RqUpSelf) is upward = scope-none p kind u RqUpSelf (of_row p kind u RqUpSelf is) refl
reads-nothing p kind u _ is upward = cc

no-kept : (p : Protocol) (kind : Kind) (u : Rule) (me : Option ℕ) (local : Local) (heads : Heads) (t : Result TemplateName Clause) → template_of p kind u ≡ t → is_upward_template t ≡ true → (view_of u.take me local heads).kept ≡ None
no-kept p kind u me local heads (Ok RqUp) is upward = let of = of_row p kind u RqUp is in let take_is = of.taking in ap (λ (t : Take). (view_of t me local heads).kept) take_is.1
no-kept p kind u me local heads (Ok RqUpSelf) is upward = let of = of_row p kind u RqUpSelf is in ap (λ (t : Take). (view_of t me local heads).kept) of.taking
no-kept p kind u me local heads _ is upward = cc

-- its guard, by the abstract state
guard-at : (p : Protocol) (kind : Kind) (u : Rule) (local : Local) (view : View) (t : Result TemplateName Clause) → template_of p kind u ≡ t → is_upward_template t ≡ true → view.kept ≡ None → AreSmall local.dir → guard_at u.guard (abstract_of local) None ≡ holds u.guard local view
guard-at p kind u local view t is upward none small = ap (λ k. guard_at u.guard (abstract_of local) (option_map (λ m. m.id) k)) (sym none) ∙ guard-exact local view u.guard small (reads-nothing p kind u t is upward)

-- a value that is sent stays where the state's does
sent-same : (u : Rule) (before after : Local) (view : View) (v : Value) → value_sent u.send ≡ Some v → (sends_val u ≡ true → after.val ≡ before.val) → value_of v after view ≡ value_of v before view
sent-same u before after view value.Val sent same = ap Some (same (ap (λ o. option_map_or (λ v. elim v [ value.Val ↦ true | _ ↦ false ]) o false) sent))
sent-same u before after view value.Msg sent same = refl
sent-same u before after view value.Kept sent same = refl
sent-same u before after view value.Rs sent same = refl
sent-same u before after view value.Zero sent same = refl

-- the local states of a chain fit
chain-fits : (p : Protocol) (tree : Tree) (kind : Kind) (u : Rule) (Fits : Local → Type 0) → IsSteady p tree kind u Fits → (xs : List Entry) (local end : Local) → Each (λ x. kind_of tree x.event.firing.object.0 ≡ Some kind) xs → IsChain p tree (Some local) (map event_of xs) (Some end) → Fits local → Fits end
chain-fits p tree kind u Fits steady [] local end kinds chain fits = let same : local ≡ end = cc in subst Fits same fits
chain-fits p tree kind u Fits steady (x ∷ xs) local end kinds chain fits = chain-fits p tree kind u Fits steady xs chain.0 end kinds.1 chain.2 (steady.closed local chain.0 x.event kinds.0 chain.1 fits)

-- a waiting request and whole downward blocks end ready
pub blocks-ready : (p : Protocol) (tree : Tree) (kind : Kind) (rule : Rule) (Fits : Local → Type 0) (before after : Local) (u : Entry) (others : List Entry) → IsSteady p tree kind rule Fits → kind_of tree u.event.firing.object.0 ≡ Some kind → rule_named p kind u.event.firing.rule ≡ Some rule → is_upward p tree u.event.firing ≡ true → Each (λ x. kind_of tree x.event.firing.object.0 ≡ Some kind) others → AreWholeBlocks p tree others → Fits before → IsChain p tree (Some before) (map event_of (u ∷ others)) (Some after) → EndsReady p tree (Some before) (Some u) others after
blocks-ready p tree kind rule Fits before after u others steady there named upward kinds blocks fits chain =
    let e = u.event in
    let held = chain.0 in
    let step = chain.1 in
    let heads = heads_seen tree e in
    let me = place_of_me tree e.firing.object.0 e.firing.me in
    let same : step.now ≡ before = (let here : Some before ≡ Some step.now = step.here in cc) in
    let parts = own_effect-parts p tree e.firing step.now heads (record { after = held; took = e.took; outs = e.outs }) step.fires in
    let does = (does-from p tree e.firing step.now heads (record { after = held; took = e.took; outs = e.outs }) parts).0 in
    let kind_is : parts.kind ≡ kind = (let both : Some parts.kind ≡ Some kind = sym parts.there ∙ there in cc) in
    let rule_is : parts.rule ≡ rule = (let both : Some parts.rule ≡ Some rule = sym parts.named ∙ ap (λ k. rule_named p k e.firing.rule) kind_is ∙ named in cc) in
    let made : Does p kind rule me before heads held e.outs = subst (λ l. Does p kind rule me l heads held e.outs) same (subst (λ r. Does p kind r me step.now heads held e.outs) rule_is (subst (λ k. Does p k parts.rule me step.now heads held e.outs) kind_is does)) in
    let fits_template : is_upward_template (template_of p kind rule) ≡ true = of-template p tree e.firing is_upward_template kind rule there named upward in
    let can = can_parts p kind rule me before heads made.can in
    let view = view_of rule.take me before heads in
    let kept = no-kept p kind rule me before heads (template_of p kind rule) refl fits_template in
    let free = rule-free p kind rule me before heads held e.outs (template_of p kind rule) refl fits_template made in
    let moves = rule-moves p kind rule me before before heads held e.outs (template_of p kind rule) refl fits_template made free.0 free.1 refl can.guard (λ v sent. refl) in
    let guarded : guard_at rule.guard (abstract_of before) None ≡ true = guard-at p kind rule before view (template_of p kind rule) refl fits_template kept (steady.small before fits) ∙ can.guard in
    let guarded_held : guard_at rule.guard (abstract_of held) None ≡ true = ap (λ l. guard_at rule.guard (abstract_of l) None) moves.held ∙ guarded in
    let fits_held = steady.closed before held e there (record { now = before; here = refl; fires = subst (λ l. own_effect p tree e.firing l heads ≡ Some (record { after = held; took = e.took; outs = e.outs })) same step.fires }) fits in
    let stands = blocks-stand p tree kind rule Fits steady others held after kinds blocks chain.2 fits_held guarded_held (ap (λ (l : Local). l.down) moves.held ∙ free.1) in
    let fits_after = chain-fits p tree kind rule Fits steady others held after kinds chain.2 fits_held in
    let later : Local = record after { up = None } in
    let still : IsStillPossible p tree e.firing before later heads =
    record {
      guard = λ k r k_is r_is.
          let k_same : kind ≡ k = (let both : Some kind ≡ Some k = sym there ∙ k_is in cc) in
          let r_same : rule ≡ r = (let both : Some rule ≡ Some r = sym named ∙ ap (λ x. rule_named p x e.firing.rule) k_same ∙ r_is in cc) in
          subst (λ r. holds r.guard later (view_of r.take me before heads) ≡ true) r_same (sym (guard-at p kind rule later view (template_of p kind rule) refl fits_template kept (steady.small after fits_after)) ∙ stands.0.guard);
      value = λ k r v k_is r_is sent.
          let k_same : kind ≡ k = (let both : Some kind ≡ Some k = sym there ∙ k_is in cc) in
          let r_same : rule ≡ r = (let both : Some rule ≡ Some r = sym named ∙ ap (λ x. rule_named p x e.firing.rule) k_same ∙ r_is in cc) in
          subst (λ r. value_sent r.send ≡ Some v → value_of v later (view_of r.take me before heads) ≡ value_of v before (view_of r.take me before heads)) r_same (λ sent. sent-same rule before later view v sent (λ sends. stands.0.value sends ∙ ap (λ (l : Local). l.val) moves.held)) sent;
    } in
    (upward, blocks-down p tree others blocks, stands.1, λ local is. (let here : before ≡ local = cc in subst (λ l. IsStillPossible p tree e.firing l later heads) here still))

-- a stable request of a lawful protocol is steady at the local states of its kind
pub stable-steady : (p : Protocol) (tree : Tree) (kind : Kind) (rule : Rule) → IsProtocol p → first_unstable p kind rule ≡ None → IsSteady p tree kind rule (IsOfKind p kind)
stable-steady p tree kind rule lawful stable =
    record {
      closed = λ local next e there step of. of-kind-next p tree kind local next e lawful there step of;
      small = of-kind-small p kind;
      once = λ name r named. (sets-fit p kind name r lawful named).1;
      whole = λ d local partner of. stable-never p kind rule d local stable partner of;
    }

-- so a stable request and whole downward blocks end ready
pub stable-ready : (p : Protocol) (tree : Tree) (kind : Kind) (rule : Rule) (before after : Local) (u : Entry) (others : List Entry) → IsProtocol p → first_unstable p kind rule ≡ None → kind_of tree u.event.firing.object.0 ≡ Some kind → rule_named p kind u.event.firing.rule ≡ Some rule → is_upward p tree u.event.firing ≡ true → Each (λ x. kind_of tree x.event.firing.object.0 ≡ Some kind) others → AreWholeBlocks p tree others → IsOfKind p kind before → IsChain p tree (Some before) (map event_of (u ∷ others)) (Some after) → EndsReady p tree (Some before) (Some u) others after
stable-ready p tree kind rule before after u others lawful stable there named upward kinds blocks of chain =
    blocks-ready p tree kind rule (IsOfKind p kind) before after u others (stable-steady p tree kind rule lawful stable) there named upward kinds blocks of chain
