-- At one object an upward request that waits moves behind what works downward while it waits.
use Rattle.std.proofs.Common.{◌≡◌, refl, ap, sym, ◌∙◌, subst, ℕ, Bool, true, false, cond, List, [], ◌∷◌, ◌++◌, length, Option, Some, None}
use Rattle.std.specs.Prelude.{option_and_then, is_none, Result, Ok}
use Rattle.std.specs.Option.{option_map_or}
use Rattle.hem_base.specs.declared.ids.Firing.{Firing}
use Rattle.hem_base.specs.declared.ids.Kind.{Kind}
use Rattle.hem_syntax.specs.declared.rule.Rule.{Rule}
use Rattle.hem_syntax.specs.declared.rule.Value.{Value}
use Rattle.hem_syntax.specs.declared.rule.Take.TheVariants as take
use Rattle.hem_syntax.specs.declared.rule.Origin.TheVariants as origin
use Rattle.hem_template.specs.declared.clause.Clause.{Clause}
use Rattle.hem_template.specs.declared.template_name.TemplateName.{TemplateName}
use Rattle.hem_template.specs.declared.template_name.TemplateName.TheVariants.{ImmUp, RqUp, RqUpSelf, RqDownDown, RsUpUp}
use Rattle.hem_object.specs.declared.state.Lock.{Lock}
use Rattle.hem_fire.specs.declared.outs.Outs.{Outs}
use Rattle.hem_syntax.specs.Protocol.{Protocol, rule_named}
use Rattle.hem_object.specs.Local.{Local}
use Rattle.hem_object.specs.Guard.{holds, value_of}
use Rattle.hem_template.specs.Template.{template_of, value_sent}
use Rattle.hem_tree.specs.Tree.{Tree, kind_of}
use Rattle.hem_fire.specs.OneFire.{Heads, can_fire}
use Rattle.hem_fire.specs.View.{view_of}
use Rattle.hem_system.specs.State.{Effect, is_own_child, place_of_me, rule_effect, own_effect, taken_heads}
use Rattle.hem_system.specs.Events.{Event}
use Rattle.hem_trace.specs.Blocks.{Each}
use Rattle.hem_template.specs.Waiting.{is_upward_template, is_downward_template}
use Rattle.hem_trace.specs.Order.{is_upward}
use Rattle.hem_law.specs.Chains.{heads_seen, ChainStep, IsChain}
use Rattle.hem_trace.specs.Templates.{is_downward}
use Rattle.hem_law.specs.Windows.{IsStillPossible}
use Rattle.hem_rows.proofs.Choices.{chosen}
use Rattle.hem_law.proofs.OwnEffect.{IsOwnEffect, own_effect-parts}
use Rattle.hem_rows.proofs.Rows.{of_row}
use Rattle.hem_abstract.proofs.UplockUnseen.{with_up}
use Rattle.hem_abstract.proofs.OneRule.{Does}
use Rattle.hem_abstract.proofs.UpwardMoves.{rq_up, rq_up-moves, rq_up_self-moves}
use Rattle.hem_abstract.proofs.TemplateForms.{is-rq_up, is-rq_up_self, imm_up-unseen, rq_down_down-unseen, rs_up_up-unseen}
use Rattle.hem_rows.proofs.Possible.{can_parts}
use Rattle.hem_law.proofs.DirLength.{local_after-length}

-- an effect that is there, by its fields
effect-there : (b : Bool) (after : Local) (took : Heads) (outs : Outs) (e : Effect) → b ≡ true → after ≡ e.after → took ≡ e.took → outs ≡ e.outs → cond b (Some (record { after = after; took = took; outs = outs })) None ≡ Some e
effect-there b after took outs e can a t o = rw (can, a, t, o) refl

-- what an effect says of its rule
pub does-from : (p : Protocol) (tree : Tree) (f : Firing) (local : Local) (heads : Heads) (e : Effect) (parts : IsOwnEffect p tree f local heads e) → Does p parts.kind parts.rule (place_of_me tree f.object.0 f.me) local heads e.after e.outs × (e.took ≡ taken_heads e.outs heads)
does-from p tree f local heads e parts =
    let it = chosen (can_fire p parts.kind parts.rule (place_of_me tree f.object.0 f.me) local heads) _ e parts.effect in
    (record { can = it.0; leaves = ap (λ x. x.after) it.1; gives = ap (λ x. x.outs) it.1 }, subst (λ x. x.took ≡ taken_heads x.outs heads) it.1 refl)

-- and back, at another local state
effect-from : (p : Protocol) (tree : Tree) (f : Firing) (kind : Kind) (rule : Rule) (local : Local) (heads : Heads) (next : Local) (took : Heads) (outs : Outs) → kind_of tree f.object.0 ≡ Some kind → rule_named p kind f.rule ≡ Some rule → is_own_child tree f.object.0 f.me ≡ true → took ≡ taken_heads outs heads → Does p kind rule (place_of_me tree f.object.0 f.me) local heads next outs → own_effect p tree f local heads ≡ Some (record { after = next; took = took; outs = outs })
effect-from p tree f kind rule local heads next took outs there named child took_is does =
    ap (option_and_then (λ kind. option_and_then (λ rule. cond (is_own_child tree f.object.0 f.me) (rule_effect p kind rule (place_of_me tree f.object.0 f.me) local heads) None) (rule_named p kind f.rule))) there
    ∙ ap (option_and_then (λ rule. cond (is_own_child tree f.object.0 f.me) (rule_effect p kind rule (place_of_me tree f.object.0 f.me) local heads) None)) named
    ∙ ap (λ b. cond b (rule_effect p kind rule (place_of_me tree f.object.0 f.me) local heads) None) child
    ∙ effect-there (can_fire p kind rule (place_of_me tree f.object.0 f.me) local heads) _ _ _ (let e : Effect = record { after = next; took = took; outs = outs } in e) does.can does.leaves (ap (λ o. taken_heads o heads) does.gives ∙ sym took_is) does.gives

-- the template of a firing's rule
pub of-template : (p : Protocol) (tree : Tree) (f : Firing) (test : Result TemplateName Clause → Bool) (kind : Kind) (rule : Rule) → kind_of tree f.object.0 ≡ Some kind → rule_named p kind f.rule ≡ Some rule → option_map_or (λ kind. option_map_or (λ rule. test (template_of p kind rule)) (rule_named p kind f.rule) false) (kind_of tree f.object.0) false ≡ true → test (template_of p kind rule) ≡ true
of-template p tree f test kind rule there named is =
    sym (ap (λ k. option_map_or (λ kind. option_map_or (λ rule. test (template_of p kind rule)) (rule_named p kind f.rule) false) k false) there ∙ ap (λ r. option_map_or (λ rule. test (template_of p kind rule)) r false) named) ∙ is

-- a rule that works downward does the same with another uplock
downward-unseen : (p : Protocol) (kind : Kind) (rule : Rule) (me : Option ℕ) (local : Local) (heads : Heads) (next : Local) (outs : Outs) (x : Option Lock) (t : Result TemplateName Clause) → template_of p kind rule ≡ t → is_downward_template t ≡ true → Does p kind rule me local heads next outs → Does p kind rule me (with_up x local) heads (with_up x next) outs
downward-unseen p kind rule me local heads next outs x (Ok ImmUp) is down does = imm_up-unseen p kind rule me local heads next outs x (of_row p kind rule ImmUp is) does
downward-unseen p kind rule me local heads next outs x (Ok RqDownDown) is down does = rq_down_down-unseen p kind rule me local heads next outs x (of_row p kind rule RqDownDown is) does
downward-unseen p kind rule me local heads next outs x (Ok RsUpUp) is down does = rs_up_up-unseen p kind rule me local heads next outs x (of_row p kind rule RsUpUp is) does
downward-unseen p kind rule me local heads next outs x _ is down does = cc

-- so does its firing
step-unseen : (p : Protocol) (tree : Tree) (local next : Local) (e : Event) (x : Option Lock) → is_downward p tree e.firing ≡ true → ChainStep p tree (Some local) e next → ChainStep p tree (Some (with_up x local)) e (with_up x next)
step-unseen p tree local next e x down step =
    let same : step.now ≡ local = (let here : Some local ≡ Some step.now = step.here in cc) in
    let fires : own_effect p tree e.firing local (heads_seen tree e) ≡ Some (record { after = next; took = e.took; outs = e.outs }) = subst (λ l. own_effect p tree e.firing l (heads_seen tree e) ≡ Some (record { after = next; took = e.took; outs = e.outs })) same step.fires in
    let parts = own_effect-parts p tree e.firing local (heads_seen tree e) (record { after = next; took = e.took; outs = e.outs }) fires in
    let does = does-from p tree e.firing local (heads_seen tree e) (record { after = next; took = e.took; outs = e.outs }) parts in
    let fits = of-template p tree e.firing is_downward_template parts.kind parts.rule parts.there parts.named down in
    record {
      now = with_up x local;
      here = refl;
      fires = effect-from p tree e.firing parts.kind parts.rule (with_up x local) (heads_seen tree e) (with_up x next) e.took e.outs parts.there parts.named parts.child does.1
          (downward-unseen p parts.kind parts.rule (place_of_me tree e.firing.object.0 e.firing.me) local (heads_seen tree e) next e.outs x (template_of p parts.kind parts.rule) refl fits does.0);
    }

-- and a chain of them
pub chain-unseen : (p : Protocol) (tree : Tree) (es : List Event) (local end : Local) (x : Option Lock) → Each (λ e. is_downward p tree e.firing ≡ true) es → IsChain p tree (Some local) es (Some end) → IsChain p tree (Some (with_up x local)) es (Some (with_up x end))
chain-unseen p tree [] local end x down chain = let same : local ≡ end = cc in ap (λ l. Some (with_up x l)) same
chain-unseen p tree (e ∷ es) local end x down chain = (with_up x chain.0, step-unseen p tree local chain.0 e x down.0 chain.1, chain-unseen p tree es chain.0 end x down.1 chain.2)

-- a chain leads to one local state
pub chain-once : (p : Protocol) (tree : Tree) (es : List Event) (start a b : Option Local) → IsChain p tree start es a → IsChain p tree start es b → a ≡ b
chain-once p tree [] start a b one other = sym one ∙ other
chain-once p tree (e ∷ es) start a b one other =
    let now : one.1.now ≡ other.1.now = (let both : Some one.1.now ≡ Some other.1.now = sym one.1.here ∙ other.1.here in cc) in
    let effects = sym one.1.fires ∙ ap (λ l. own_effect p tree e.firing l (heads_seen tree e)) now ∙ other.1.fires in
    let next : one.0 ≡ other.0 = after_same one.0 other.0 effects in
    chain-once p tree es (Some one.0) a b one.2 (subst (λ l. IsChain p tree (Some l) es b) (sym next) other.2)
  where
    after_same : (l m : Local) → (let x : Effect = record { after = l; took = e.took; outs = e.outs } in Some x) ≡ Some (record { after = m; took = e.took; outs = e.outs }) → l ≡ m
    after_same l m same = let fields : (let x : Effect = record { after = l; took = e.took; outs = e.outs } in x) ≡ record { after = m; took = e.took; outs = e.outs } = cc in ap (λ x. x.after) fields

-- a chain goes on by one event
pub chain-snoc : (p : Protocol) (tree : Tree) (es : List Event) (start : Option Local) (mid next : Local) (e : Event) → IsChain p tree start es (Some mid) → ChainStep p tree (Some mid) e next → IsChain p tree start (es ++ e ∷ []) (Some next)
chain-snoc p tree [] start mid next e chain step = (next, record { now = step.now; here = chain ∙ step.here; fires = step.fires }, refl)
chain-snoc p tree (y ∷ es) start mid next e chain step = (chain.0, chain.1, chain-snoc p tree es (Some chain.0) mid next e chain.2 step)

-- it keeps the number of children
step-length : (p : Protocol) (tree : Tree) (local next : Local) (e : Event) → ChainStep p tree (Some local) e next → length next.dir ≡ length local.dir
step-length p tree local next e step =
    let same : step.now ≡ local = (let here : Some local ≡ Some step.now = step.here in cc) in
    let parts = own_effect-parts p tree e.firing step.now (heads_seen tree e) (record { after = next; took = e.took; outs = e.outs }) step.fires in
    let does = (does-from p tree e.firing step.now (heads_seen tree e) (record { after = next; took = e.took; outs = e.outs }) parts).0 in
    ap (λ (l : Local). length l.dir) (sym does.leaves) ∙ local_after-length p parts.kind parts.rule (place_of_me tree e.firing.object.0 e.firing.me) step.now (heads_seen tree e) ∙ ap (λ (l : Local). length l.dir) same

chain-length : (p : Protocol) (tree : Tree) (es : List Event) (local end : Local) → IsChain p tree (Some local) es (Some end) → length end.dir ≡ length local.dir
chain-length p tree [] local end chain = let same : local ≡ end = cc in ap (λ (l : Local). length l.dir) (sym same)
chain-length p tree (e ∷ es) local end chain = chain-length p tree es chain.0 end chain.2 ∙ step-length p tree local chain.0 e chain.1

-- what an upward request does at a later local state
pub record Moves (p : Protocol) (kind : Kind) (rule : Rule) (me : Option ℕ) (local later : Local) (heads : Heads) (next : Local) (outs : Outs) : Type 0 where
  pub lock : Lock
  pub held : next ≡ with_up (Some lock) local
  pub again : Does p kind rule me later heads (with_up (Some lock) later) outs

pub rule-moves : (p : Protocol) (kind : Kind) (rule : Rule) (me : Option ℕ) (local later : Local) (heads : Heads) (next : Local) (outs : Outs) (t : Result TemplateName Clause) → template_of p kind rule ≡ t → is_upward_template t ≡ true → Does p kind rule me local heads next outs → later.up ≡ None → later.down ≡ None → length later.dir ≡ length local.dir → holds rule.guard later (view_of rule.take me local heads) ≡ true → ((v : Value) → value_sent rule.send ≡ Some v → value_of v later (view_of rule.take me local heads) ≡ value_of v local (view_of rule.take me local heads)) → Moves p kind rule me local later heads next outs
rule-moves p kind rule me local later heads next outs (Ok RqUp) is upward does up down size guarded value =
    let form = is-rq_up p kind rule (of_row p kind rule RqUp is) in
    let it = rq_up-moves p kind rule.name form.0 rule.guard origin.Child form.1 form.2 me local later heads next outs (subst (λ r. Does p kind r me local heads next outs) form.3 does) up down size
    (subst (λ r. holds r.guard later (view_of r.take me local heads) ≡ true) form.3 guarded)
    (subst (λ r. (v : Value) → value_sent r.send ≡ Some v → value_of v later (view_of r.take me local heads) ≡ value_of v local (view_of r.take me local heads)) form.3 value form.2 refl) in
    record { lock = it.0; held = it.1; again = subst (λ r. Does p kind r me later heads (with_up (Some it.0) later) outs) (sym form.3) it.2 }
rule-moves p kind rule me local later heads next outs (Ok RqUpSelf) is upward does up down size guarded value =
    let form = is-rq_up_self p kind rule (of_row p kind rule RqUpSelf is) in
    let it = rq_up_self-moves p kind rule.name rule.guard origin.Own form.0 form.1 me local later heads next outs (subst (λ r. Does p kind r me local heads next outs) form.2 does) up down size
    (subst (λ r. holds r.guard later (view_of r.take me local heads) ≡ true) form.2 guarded)
    (subst (λ r. (v : Value) → value_sent r.send ≡ Some v → value_of v later (view_of r.take me local heads) ≡ value_of v local (view_of r.take me local heads)) form.2 value form.1 refl) in
    record { lock = it.0; held = it.1; again = subst (λ r. Does p kind r me later heads (with_up (Some it.0) later) outs) (sym form.2) it.2 }
rule-moves p kind rule me local later heads next outs _ is upward does up down size guarded value = cc

-- both locks are free where an upward request fires
pub rule-free : (p : Protocol) (kind : Kind) (rule : Rule) (me : Option ℕ) (local : Local) (heads : Heads) (next : Local) (outs : Outs) (t : Result TemplateName Clause) → template_of p kind rule ≡ t → is_upward_template t ≡ true → Does p kind rule me local heads next outs → (local.up ≡ None) × (local.down ≡ None)
rule-free p kind rule me local heads next outs (Ok RqUp) is upward does =
    let form = is-rq_up p kind rule (of_row p kind rule RqUp is) in
    let parts = can_parts p kind (rq_up rule.name (take.Me form.0) rule.guard origin.Child form.1 form.2) me local heads (subst (λ r. can_fire p kind r me local heads ≡ true) form.3 does.can) in
    (none_there local.up parts.up, none_there local.down parts.down)
  where
    none_there : (lock : Option Lock) → is_none lock ≡ true → lock ≡ None
    none_there None is = refl
    none_there (Some lock) is = cc
rule-free p kind rule me local heads next outs (Ok RqUpSelf) is upward does =
    let form = is-rq_up_self p kind rule (of_row p kind rule RqUpSelf is) in
    let parts = can_parts p kind (rq_up rule.name take.Nothing rule.guard origin.Own form.0 form.1) me local heads (subst (λ r. can_fire p kind r me local heads ≡ true) form.2 does.can) in
    (none_there local.up parts.up, none_there local.down parts.down)
  where
    none_there : (lock : Option Lock) → is_none lock ≡ true → lock ≡ None
    none_there None is = refl
    none_there (Some lock) is = cc
rule-free p kind rule me local heads next outs _ is upward does = cc

same-up : (l : Local) → l.up ≡ None → with_up None l ≡ l
same-up l up = rw (← up) refl

-- an upward request and what works downward while it waits are a chain in the other order, to the same local state: its downlock is free then, and without the waiting request's lock the guard still holds there and the value is the same
pub waits-behind : (p : Protocol) (tree : Tree) (before after : Local) (u : Event) (es : List Event) → IsChain p tree (Some before) (u ∷ es) (Some after) → is_upward p tree u.firing ≡ true → Each (λ e. is_downward p tree e.firing ≡ true) es → after.down ≡ None → IsStillPossible p tree u.firing before (with_up None after) (heads_seen tree u) → IsChain p tree (Some before) (es ++ u ∷ []) (Some after)
waits-behind p tree before after u es chain upward down freed still =
    let held = chain.0 in
    let step = chain.1 in
    let same : step.now ≡ before = (let here : Some before ≡ Some step.now = step.here in cc) in
    let fires : own_effect p tree u.firing before (heads_seen tree u) ≡ Some (record { after = held; took = u.took; outs = u.outs }) = subst (λ l. own_effect p tree u.firing l (heads_seen tree u) ≡ Some (record { after = held; took = u.took; outs = u.outs })) same step.fires in
    let me = place_of_me tree u.firing.object.0 u.firing.me in
    let parts = own_effect-parts p tree u.firing before (heads_seen tree u) (record { after = held; took = u.took; outs = u.outs }) fires in
    let does = does-from p tree u.firing before (heads_seen tree u) (record { after = held; took = u.took; outs = u.outs }) parts in
    let fits = of-template p tree u.firing is_upward_template parts.kind parts.rule parts.there parts.named upward in
    let free = rule-free p parts.kind parts.rule me before (heads_seen tree u) held u.outs (template_of p parts.kind parts.rule) refl fits does.0 in
    let size : length after.dir ≡ length before.dir = chain-length p tree (u ∷ es) before after chain in
    let moved = rule-moves p parts.kind parts.rule me before (with_up None after) (heads_seen tree u) held u.outs (template_of p parts.kind parts.rule) refl fits does.0 refl freed size
    (still.guard parts.kind parts.rule parts.there parts.named) (λ v sent. still.value parts.kind parts.rule v parts.there parts.named sent) in
    let first : IsChain p tree (Some before) es (Some (with_up None after)) = subst (λ l. IsChain p tree (Some l) es (Some (with_up None after))) (ap (with_up None) moved.held ∙ same-up before free.0) (chain-unseen p tree es held after None down chain.2) in
    let again : IsChain p tree (Some held) es (Some (with_up (Some moved.lock) after)) = subst (λ l. IsChain p tree (Some l) es (Some (with_up (Some moved.lock) after))) (ap (with_up (Some moved.lock)) moved.held ∙ sym moved.held) (chain-unseen p tree es held after (Some moved.lock) down chain.2) in
    let last : with_up (Some moved.lock) after ≡ after = (let both = chain-once p tree es (Some held) (Some (with_up (Some moved.lock) after)) (Some after) again chain.2 in cc) in
    chain-snoc p tree es (Some before) (with_up None after) after u first
    (record {
      now = with_up None after;
      here = refl;
      fires = subst (λ l. own_effect p tree u.firing (with_up None after) (heads_seen tree u) ≡ Some (record { after = l; took = u.took; outs = u.outs })) last (effect-from p tree u.firing parts.kind parts.rule (with_up None after) (heads_seen tree u) (with_up (Some moved.lock) after) u.took u.outs parts.there parts.named parts.child does.1 moved.again);
    })
