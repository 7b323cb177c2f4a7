-- The converse of the law: a run of a line is a chain at each object and a flow in each list.
use Rattle.std.proofs.Common.{◌≡◌, ◌≢◌, refl, ap, sym, ◌∙◌, subst, ℕ, ◌+◌, Bool, true, false, ◌&&◌, cond, List, [], ◌∷◌, map, length, arith, Option, Some, None, inl, inr, ◌⊎◌}
use Rattle.std.specs.Prelude.{◌==◌, slice_get, is_none, option_map, option_and_then}
use Rattle.std.specs.Option.{option_map_or}
use Rattle.std.proofs.lemmas.Bool.{eqb-true}
use Rattle.std.proofs.lemmas.Bool.Decides.{eqb_tells}
use Rattle.hem_base.specs.Sets.{has_bit}
use Rattle.hem_base.specs.declared.ids.Message.{Message}
use Rattle.hem_base.specs.declared.ids.ObjectId.{ObjectId}
use Rattle.hem_base.specs.declared.ids.Firing.{Firing}
use Rattle.hem_system.specs.declared.lane.Lane.{Lane}
use Rattle.hem_system.specs.declared.lane.Lane.TheVariants.{UpRequests, UpResponses, Down, Requests, Answers}
use Rattle.hem_syntax.specs.Protocol.{Protocol}
use Rattle.hem_tree.specs.Tree.{Tree, is_child, children_of, place_among}
use Rattle.hem_object.specs.Local.{Local}
use Rattle.hem_system.specs.State.{Line, Effect, LineStep, own_effect, local_at, request_head, effect_of, line_step_of, run_line, heads_of, head_at, line_after, list_at, list_after, takes, taken_heads}
use Rattle.hem_system.specs.Events.{Event, event_of}
use Rattle.hem_trace.specs.History.{line_events}
use Rattle.hem_law.specs.Chains.{own_events, firings, heads_seen, ChainStep, IsChain}
use Rattle.hem_law.specs.Flows.{IsFirst, IsFlow}
use Rattle.hem_law.specs.Leads.{Leads}
use Rattle.hem_system.proofs.TakenHeads.{own_effect-enough}
use Rattle.hem_rows.proofs.Choices.{both, if_some, if_mapped}
use Rattle.hem_system.proofs.Own.{slice_get-map_each}
use Rattle.hem_law.proofs.OwnEffect.{own_effect-parts, own_effect-took}
use Rattle.hem_law.proofs.Children.{at_bits, heads-met}
use Rattle.hem_law.proofs.LineParts.{length-map_each, list_at-after, local_at-after}
use Rattle.hem_law.proofs.Taken.{HasMessage, TakesThere, takes-there, kid-at}
use Rattle.hem_law.proofs.LawRun.{own-first, own-other}

-- the requester's message
up-first : (taken : Bool) (me : Option ObjectId) (line : Line) (o k : ℕ) (mine : Bool) → (taken && option_map_or (λ child. child.0 == k) me false && mine) ≡ true → (taken ≡ true → HasMessage (request_head line o me)) → (m : Message) × (head_at line k UpRequests ≡ Some m) × (cond taken (request_head line o me) None ≡ Some m)
up-first false me line o k mine takes there = cc
up-first true None line o k mine takes there = cc
up-first true (Some child) line o k mine takes there =
    let has = there refl in
    (has.0, subst (λ i. head_at line i UpRequests ≡ Some has.0) (eqb-true child.0 k (both (child.0 == k) mine takes).0) has.1, has.1)

own-first-request : (taken : Bool) (me : Option ObjectId) (line : Line) (o k : ℕ) → (taken && is_none me && k == o) ≡ true → (taken ≡ true → HasMessage (request_head line o me)) → (m : Message) × (head_at line k Requests ≡ Some m) × (cond taken (request_head line o me) None ≡ Some m)
own-first-request false me line o k takes there = cc
own-first-request true (Some child) line o k takes there = cc
own-first-request true None line o k takes there =
    let has = there refl in
    (has.0, subst (λ i. head_at line i Requests ≡ Some has.0) (sym (eqb-true k o takes)) has.1, has.1)

-- the parent's message
down-first : (taken : Bool) (line : Line) (o k : ℕ) → (taken && k == o) ≡ true → (taken ≡ true → HasMessage (head_at line o Down)) → (m : Message) × (head_at line k Down ≡ Some m) × (cond taken (head_at line o Down) None ≡ Some m)
down-first false line o k takes there = cc
down-first true line o k takes there =
    let has = there refl in
    (has.0, subst (λ i. head_at line i Down ≡ Some has.0) (sym (eqb-true k o takes)) has.1, has.1)

-- a child's response
kid-first : (tree : Tree) (line : Line) (o k set : ℕ) → (is_child tree k o && has_bit set (place_among tree o k)) ≡ true → ((j : ℕ) (head : Option Message) → has_bit set j ≡ true → slice_get (map (λ k. head_at line k UpResponses) (children_of tree o)) j ≡ Some head → HasMessage head) → (m : Message) × (head_at line k UpResponses ≡ Some m) × (option_and_then (λ head. head) (slice_get (at_bits set 0 (map (λ k. head_at line k UpResponses) (children_of tree o))) (place_among tree o k)) ≡ Some m)
kid-first tree line o k set takes there =
    let parts = both (is_child tree k o) _ takes in
    let at = kid-at tree o k (λ k. head_at line k UpResponses) parts.0 in
    let has = there (place_among tree o k) (head_at line k UpResponses) parts.1 at in
    let bit : has_bit set (0 + place_among tree o k) ≡ true = let e : 0 + place_among tree o k ≡ place_among tree o k = omega arith in rw e parts.1 in
    let head = ap (option_and_then (λ head. head)) (slice_get-map_each (λ k head. cond (has_bit set k) head None) 0 (map (λ k. head_at line k UpResponses) (children_of tree o)) (place_among tree o k) ∙ ap (option_map (λ head. cond (has_bit set (0 + place_among tree o k)) head None)) at) in
    (has.0, has.1, head ∙ ap (λ b. cond b (head_at line k UpResponses) None) bit ∙ has.1)

-- a firing sees the first message of each list that it takes from
pub sees-first : (tree : Tree) (line : Line) (f : Firing) (e : Effect) → e.took ≡ taken_heads e.outs (heads_of tree line f.object.0 f.me) → TakesThere e.outs (heads_of tree line f.object.0 f.me) → (k : ℕ) (lane : Lane) → takes tree f e.outs k lane ≡ true → IsFirst tree k lane (list_at line k lane) (event_of f e)
sees-first tree line f e took there k UpRequests takes =
    let it = up-first e.outs.taken_request f.me line f.object.0 k (is_child tree k f.object.0) takes there.request in
    record { message = it.0; first = it.1; seen = ap (λ h. h.request) took ∙ it.2 }
sees-first tree line f e took there k UpResponses takes =
    let it = kid-first tree line f.object.0 k e.outs.taken_kids.0 takes there.kids in
    record { message = it.0; first = it.1; seen = ap (λ h. option_and_then (λ head. head) (slice_get h.kids (place_among tree f.object.0 k))) took ∙ it.2 }
sees-first tree line f e took there k Down takes =
    let it = down-first e.outs.taken_parent line f.object.0 k takes there.parent in
    record { message = it.0; first = it.1; seen = ap (λ h. h.parent) took ∙ it.2 }
sees-first tree line f e took there k Requests takes =
    let it = own-first-request e.outs.taken_request f.me line f.object.0 k takes there.request in
    record { message = it.0; first = it.1; seen = ap (λ h. h.request) took ∙ it.2 }
sees-first tree line f e took there k Answers takes = cc

-- what is known of a step that was made
pub record Made (p : Protocol) (tree : Tree) (line : Line) (f : Firing) (step : LineStep) : Type 0 where
  pub chain : ChainStep p tree (local_at line f.object.0) (event_of f step.effect) step.effect.after
  pub first : (k : ℕ) (lane : Lane) → takes tree f step.effect.outs k lane ≡ true → IsFirst tree k lane (list_at line k lane) (event_of f step.effect)
  pub next : step.next ≡ line_after tree f step.effect line

pub step-made : (p : Protocol) (tree : Tree) (line : Line) (f : Firing) (step : LineStep) → line_step_of p tree line f ≡ Some step → Made p tree line f step
step-made p tree line f step is =
    let heads = heads_of tree line f.object.0 f.me in
    let one = if_mapped {B = LineStep} (λ e. record { effect = e; next = line_after tree f e line }) (effect_of p tree line f) step is in
    let e = one.0 in
    let same : e ≡ step.effect = ap (λ s. s.effect) one.2 in
    let two = if_some (λ local. own_effect p tree f local heads) (local_at line f.object.0) e one.1 in
    let took : step.effect.took ≡ taken_heads step.effect.outs heads = subst (λ x. x.took ≡ taken_heads x.outs heads) same (own_effect-took p tree f two.0 heads e two.2) in
    let fires : own_effect p tree f two.0 heads ≡ Some step.effect = two.2 ∙ ap Some same in
    let first = sees-first tree line f step.effect took (takes-there p tree f two.0 heads step.effect fires) in
    let parts = own_effect-parts p tree f two.0 heads step.effect fires in
    let met = heads-met tree line (event_of f step.effect) parts.child (λ k lane t. let x = first k lane t in x.first ∙ sym x.seen) in
    record {
      chain = record { now = two.0; here = two.1; fires = own_effect-enough p tree f two.0 heads (heads_seen tree (event_of f step.effect)) step.effect fires (sym met ∙ sym took) };
      first = first;
      next = sym (ap (λ s. s.next) one.2) ∙ ap (λ x. line_after tree f x line) same;
    }

-- one event before others that lead on
leads-first : (p : Protocol) (tree : Tree) (old : Line) (f : Firing) (step : LineStep) (es : List Event) (new : Line) → length old ≡ length tree → Made p tree old f step → Leads p tree step.next es new → Leads p tree old (event_of f step.effect ∷ es) new
leads-first p tree old f step es new size made leads =
    record {
      size = size;
      chains = λ k. chain k (eqb_tells k f.object.0);
      flows = λ k lane. (made.first k lane, subst (λ ms. IsFlow tree k lane ms es (list_at new k lane)) (lists k lane) (leads.flows k lane));
    }
  where
    locals : (k : ℕ) → local_at step.next k ≡ option_map (λ l. cond (k == f.object.0) step.effect.after l) (local_at old k)
    locals k = ap (λ x. local_at x k) made.next ∙ local_at-after tree old f step.effect k

    lists : (k : ℕ) (lane : Lane) → list_at step.next k lane ≡ list_after tree f step.effect.outs k lane (list_at old k lane)
    lists k lane = ap (λ x. list_at x k lane) made.next ∙ list_at-after tree old f step.effect made.chain.now k lane size made.chain.here

    unchanged : (l : Option Local) → option_map (λ l. cond false step.effect.after l) l ≡ l
    unchanged None = refl
    unchanged (Some l) = refl

    chain : (k : ℕ) → ((k == f.object.0) ≡ true) × (k ≡ f.object.0) ⊎ ((k == f.object.0) ≡ false) × (k ≢ f.object.0) → IsChain p tree (local_at old k) (own_events k (event_of f step.effect ∷ es)) (local_at new k)
    chain k (inl same) =
        let now : local_at step.next k ≡ Some step.effect.after = locals k ∙ ap (λ b. option_map (λ l. cond b step.effect.after l) (local_at old k)) same.0 ∙ ap (option_map (λ l. step.effect.after)) (ap (local_at old) same.1 ∙ made.chain.here) in
        let rest : IsChain p tree (Some step.effect.after) (own_events k es) (local_at new k) = subst (λ l. IsChain p tree l (own_events k es) (local_at new k)) now (leads.chains k) in
        subst (λ i. IsChain p tree (Some step.effect.after) (own_events i es) (local_at new i) → IsChain p tree (local_at old i) (own_events i (event_of f step.effect ∷ es)) (local_at new i)) (sym same.1)
        (λ rest. subst (λ xs. IsChain p tree (local_at old f.object.0) xs (local_at new f.object.0)) (sym (own-first (event_of f step.effect) es)) (step.effect.after, made.chain, rest)) rest
    chain k (inr other) =
        let now : local_at step.next k ≡ local_at old k = locals k ∙ ap (λ b. option_map (λ l. cond b step.effect.after l) (local_at old k)) other.0 ∙ unchanged (local_at old k) in
        subst (λ xs. IsChain p tree (local_at old k) xs (local_at new k)) (sym (own-other k (event_of f step.effect) es (λ same. other.1 (sym same)))) (subst (λ l. IsChain p tree l (own_events k es) (local_at new k)) now (leads.chains k))

-- a run leads from its start to its end by its events
pub projection : (p : Protocol) (tree : Tree) (old : Line) (h : List Firing) (new : Line) → length old ≡ length tree → run_line p tree old h ≡ Some new → Leads p tree old (line_events p tree old h) new
projection p tree old [] new size ran =
    let same : old ≡ new = cc in
    record { size = size; chains = λ k. ap (λ l. local_at l k) same; flows = λ k lane. ap (λ l. list_at l k lane) same }
projection p tree old (f ∷ h) new size ran =
    let one = if_some (λ step. run_line p tree step.next h) (line_step_of p tree old f) new ran in
    let made = step-made p tree old f one.0 one.1 in
    let next_size : length one.0.next ≡ length tree = ap length made.next ∙ length-map_each _ 0 old ∙ size in
    rw (one.1, line_events) (leads-first p tree old f one.0 (line_events p tree one.0.next h) new size made (projection p tree one.0.next h new next_size one.2))

-- the firings of a run's events are the run
pub firings-events : (p : Protocol) (tree : Tree) (old : Line) (h : List Firing) (new : Line) → run_line p tree old h ≡ Some new → firings (line_events p tree old h) ≡ h
firings-events p tree old [] new ran = refl
firings-events p tree old (f ∷ h) new ran =
    let one = if_some (λ step. run_line p tree step.next h) (line_step_of p tree old f) new ran in
    rw (one.1, line_events) (ap (λ rest. f ∷ rest) (firings-events p tree one.0.next h new one.2))
