-- An upward request and what works downward take from other lists, and send to others: so both orders of a window take and send in the same order.
use Rattle.std.proofs.Common.{◌≡◌, refl, ap, sym, ◌∙◌, subst, ℕ, Bool, true, false, ◌&&◌, List, [], ◌∷◌, ◌++◌, map, arith, Option, Some, None, inl, inr, ◌⊎◌}
use Rattle.std.specs.Prelude.{◌==◌, filter, flat_map, option_to_list, Result, Ok}
use Rattle.std.specs.Option.{option_map_or}
use Rattle.std.proofs.lemmas.List.{append-nil}
use Rattle.std.proofs.lemmas.List.Elements.{filter-append}
use Rattle.hem_base.specs.Sets.{has_bit}
use Rattle.hem_base.specs.declared.ids.MsgId.{MsgId}
use Rattle.hem_base.specs.declared.ids.KidSet.{KidSet}
use Rattle.hem_base.specs.declared.ids.Kind.{Kind}
use Rattle.hem_base.specs.declared.ids.Firing.{Firing}
use Rattle.hem_base.specs.declared.ids.StatusSet.{StatusSet}
use Rattle.hem_syntax.specs.declared.rule.Rule.{Rule}
use Rattle.hem_syntax.specs.declared.rule.Value.{Value}
use Rattle.hem_syntax.specs.declared.rule.Class.{Class}
use Rattle.hem_syntax.specs.declared.rule.Class.TheVariants.{UpReq, UpRsp}
use Rattle.hem_syntax.specs.declared.rule.Take.{Take}
use Rattle.hem_syntax.specs.declared.rule.Take.TheVariants as take
use Rattle.hem_syntax.specs.declared.rule.SendTo.TheVariants as send
use Rattle.hem_template.specs.declared.clause.Clause.{Clause}
use Rattle.hem_template.specs.declared.template_name.TemplateName.{TemplateName}
use Rattle.hem_template.specs.declared.template_name.TemplateName.TheVariants.{ImmUp, RqUp, RqUpSelf, RqDownDown, RsUpUp}
use Rattle.hem_syntax.specs.Protocol.{Protocol, class_of, has_class, is_up_req, is_up_rsp}
use Rattle.hem_object.specs.Local.{Local}
use Rattle.hem_template.specs.Template.{template_of}
use Rattle.hem_tree.specs.Tree.{Tree, is_child, place_among}
use Rattle.hem_fire.specs.declared.outs.To.TheVariants as to
use Rattle.hem_fire.specs.declared.outs.Outs.{Outs}
use Rattle.hem_fire.specs.OneFire.{Heads, outs_of}
use Rattle.hem_object.specs.Targets.{targets_of}
use Rattle.hem_fire.specs.View.{view_of}
use Rattle.hem_fire.specs.Sends.{goes_to}
use Rattle.hem_system.specs.declared.lane.Lane.{Lane}
use Rattle.hem_system.specs.declared.lane.Lane.TheVariants.{UpRequests, UpResponses, Down, Requests, Answers}
use Rattle.hem_system.specs.State.{place_of_me, takes, reaches}
use Rattle.hem_system.specs.Events.{Event}
use Rattle.hem_trace.specs.Blocks.{Each}
use Rattle.hem_trace.specs.Order.{Entry, is_upward}
use Rattle.hem_template.specs.Waiting.{is_upward_template, is_downward_template}
use Rattle.hem_law.specs.Chains.{heads_seen, ChainStep, IsChain}
use Rattle.hem_law.specs.Parts.{takers, senders}
use Rattle.hem_law.specs.Printed.{event_of}
use Rattle.hem_trace.specs.Templates.{is_downward}
use Rattle.hem_law.specs.Windows.{Window, as_made, as_moved, EndsReady, AreWindows}
use Rattle.hem_law.proofs.OwnEffect.{own_effect-parts}
use Rattle.hem_law.proofs.Filters.{filter-no}
use Rattle.hem_law.proofs.ListFacts.{each-map}
use Rattle.hem_rows.proofs.Rows.{of_row}
use Rattle.hem_law.proofs.Pending.{does-from, of-template}

-- it takes a child's or a processor's request, or nothing, and sends a request up
pub record WorksUp (outs : Outs) : Type 0 where
  pub parent : outs.taken_parent ≡ false
  pub kids : outs.taken_kids.0 ≡ 0
  pub sends : outs.to ≡ to.UpRequest

-- it takes the parent's message or the children's responses, and sends a response up or requests down
pub record WorksDown (outs : Outs) : Type 0 where
  pub me : outs.taken_request ≡ false
  pub sends : (outs.to ≡ to.UpResponse) ⊎ ((set : KidSet) × (outs.to ≡ to.Kids set))

-- where a message to the parent goes
class-is : (test : Class → Bool) (c : Option Class) → option_map_or test c false ≡ true → (d : Class) × (c ≡ Some d) × (test d ≡ true)
class-is test None is = cc
class-is test (Some d) is = (d, refl, is)

up-req : (c : Class) → is_up_req c ≡ true → c ≡ UpReq
up-req UpReq is = refl
up-req _ is = cc

up-rsp : (c : Class) → is_up_rsp c ≡ true → c ≡ UpRsp
up-rsp UpRsp is = refl
up-rsp _ is = cc

goes-request : (p : Protocol) (rule : Rule) (me : Option ℕ) (kind : Kind) (local : Local) (heads : Heads) (id : MsgId) (v : Value) → rule.send ≡ send.Parent id v → has_class p id is_up_req ≡ true → (outs_of p kind rule me local heads).to ≡ to.UpRequest
goes-request p rule me kind local heads id v is class =
    let it = class-is is_up_req (class_of p id) class in
    let known : class_of p id ≡ Some UpReq = it.1 ∙ ap Some (up-req it.0 it.2) in
    rw (is, known, goes_to) refl

goes-response : (p : Protocol) (rule : Rule) (me : Option ℕ) (kind : Kind) (local : Local) (heads : Heads) (id : MsgId) (v : Value) → rule.send ≡ send.Parent id v → has_class p id is_up_rsp ≡ true → (outs_of p kind rule me local heads).to ≡ to.UpResponse
goes-response p rule me kind local heads id v is class =
    let it = class-is is_up_rsp (class_of p id) class in
    let known : class_of p id ≡ Some UpRsp = it.1 ∙ ap Some (up-rsp it.0 it.2) in
    rw (is, known, goes_to) refl

goes-kids : (p : Protocol) (rule : Rule) (me : Option ℕ) (kind : Kind) (local : Local) (heads : Heads) (set : StatusSet) (id : MsgId) (v : Value) → rule.send ≡ send.Kids set id v → (outs_of p kind rule me local heads).to ≡ to.Kids (targets_of (send.Kids set id v) local (view_of rule.take me local heads))
goes-kids p rule me kind local heads set id v is = rw is refl

-- what a rule of an upward template takes and sends
takes-above : (p : Protocol) (kind : Kind) (rule : Rule) (me : Option ℕ) (local : Local) (heads : Heads) (t : Take) → rule.take ≡ t → ((id : MsgId) × (t ≡ take.Me id)) ⊎ (t ≡ take.Nothing) → ((outs_of p kind rule me local heads).taken_parent ≡ false) × ((outs_of p kind rule me local heads).taken_kids.0 ≡ 0)
takes-above p kind rule me local heads t is (inl it) = (rw (is, it.1) refl, rw (is, it.1) refl)
takes-above p kind rule me local heads t is (inr it) = (rw (is, it) refl, rw (is, it) refl)

upward-outs : (p : Protocol) (kind : Kind) (rule : Rule) (me : Option ℕ) (local : Local) (heads : Heads) (t : Result TemplateName Clause) → template_of p kind rule ≡ t → is_upward_template t ≡ true → WorksUp (outs_of p kind rule me local heads)
upward-outs p kind rule me local heads (Ok RqUp) is upward =
    let of = of_row p kind rule RqUp is in
    let t = takes-above p kind rule me local heads rule.take refl (inl of.taking) in
    let s = of.sending in
    record { parent = t.0; kids = t.1; sends = goes-request p rule me kind local heads s.0 s.1 s.2 s.3 }
upward-outs p kind rule me local heads (Ok RqUpSelf) is upward =
    let of = of_row p kind rule RqUpSelf is in
    let t = takes-above p kind rule me local heads rule.take refl (inr of.taking) in
    let s = of.sending in
    record { parent = t.0; kids = t.1; sends = goes-request p rule me kind local heads s.0 s.1 s.2 s.3 }
upward-outs p kind rule me local heads _ is upward = cc

-- and of a downward one
downward-outs : (p : Protocol) (kind : Kind) (rule : Rule) (me : Option ℕ) (local : Local) (heads : Heads) (t : Result TemplateName Clause) → template_of p kind rule ≡ t → is_downward_template t ≡ true → WorksDown (outs_of p kind rule me local heads)
downward-outs p kind rule me local heads (Ok ImmUp) is down =
    let of = of_row p kind rule ImmUp is in
    let t = of.taking in
    let s = of.sending in
    record { me = rw t.1 refl; sends = inl (goes-response p rule me kind local heads s.0 s.1 s.2 s.3) }
downward-outs p kind rule me local heads (Ok RqDownDown) is down =
    let of = of_row p kind rule RqDownDown is in
    let t = of.taking in
    let s = of.sending in
    record { me = rw t.1 refl; sends = inr (targets_of (send.Kids s.0 s.1 s.2) local (view_of rule.take me local heads), goes-kids p rule me kind local heads s.0 s.1 s.2 s.3) }
downward-outs p kind rule me local heads (Ok RsUpUp) is down =
    let of = of_row p kind rule RsUpUp is in
    let t = of.taking in
    let s = of.sending in
    record { me = rw t.1 refl; sends = inl (goes-response p rule me kind local heads s.0 s.1 s.2 s.3) }
downward-outs p kind rule me local heads _ is down = cc

-- so does an event of a chain
event-up : (p : Protocol) (tree : Tree) (start : Option Local) (e : Event) (next : Local) → is_upward p tree e.firing ≡ true → ChainStep p tree start e next → WorksUp e.outs
event-up p tree start e next upward step =
    let parts = own_effect-parts p tree e.firing step.now (heads_seen tree e) (record { after = next; took = e.took; outs = e.outs }) step.fires in
    let does = (does-from p tree e.firing step.now (heads_seen tree e) (record { after = next; took = e.took; outs = e.outs }) parts).0 in
    subst WorksUp does.gives (upward-outs p parts.kind parts.rule (place_of_me tree e.firing.object.0 e.firing.me) step.now (heads_seen tree e) (template_of p parts.kind parts.rule) refl (of-template p tree e.firing is_upward_template parts.kind parts.rule parts.there parts.named upward))

event-down : (p : Protocol) (tree : Tree) (start : Option Local) (e : Event) (next : Local) → is_downward p tree e.firing ≡ true → ChainStep p tree start e next → WorksDown e.outs
event-down p tree start e next down step =
    let parts = own_effect-parts p tree e.firing step.now (heads_seen tree e) (record { after = next; took = e.took; outs = e.outs }) step.fires in
    let does = (does-from p tree e.firing step.now (heads_seen tree e) (record { after = next; took = e.took; outs = e.outs }) parts).0 in
    subst WorksDown does.gives (downward-outs p parts.kind parts.rule (place_of_me tree e.firing.object.0 e.firing.me) step.now (heads_seen tree e) (template_of p parts.kind parts.rule) refl (of-template p tree e.firing is_downward_template parts.kind parts.rule parts.there parts.named down))

chain-down : (p : Protocol) (tree : Tree) (xs : List Entry) (start end : Option Local) → Each (λ x. is_downward p tree x.event.firing ≡ true) xs → IsChain p tree start (map event_of xs) end → Each (λ x. WorksDown x.event.outs) xs
chain-down p tree [] start end down chain = tt
chain-down p tree (x ∷ xs) start end down chain = (event-down p tree start x.event chain.0 down.0 chain.1, chain-down p tree xs (Some chain.0) end down.1 chain.2)

-- whether a list is one of requests
abbrev asks : Lane → Bool
asks UpRequests = true
asks Requests = true
asks _ = false

false-right : (b : Bool) → (b && false) ≡ false
false-right true = refl
false-right false = refl

up-takes : (tree : Tree) (f : Firing) (outs : Outs) (k : ℕ) (lane : Lane) → WorksUp outs → asks lane ≡ false → takes tree f outs k lane ≡ false
up-takes tree f outs k UpRequests works no_it = cc
up-takes tree f outs k UpResponses works no_it = let none : has_bit outs.taken_kids.0 (place_among tree f.object.0 k) ≡ false = ap (λ (b : ℕ). has_bit b (place_among tree f.object.0 k)) works.kids ∙ no_bit (place_among tree f.object.0 k) in rw none (false-right (is_child tree k f.object.0))
  where
    no_bit : (i : ℕ) → has_bit 0 i ≡ false
    no_bit i = grind arith
up-takes tree f outs k Down works no_it = ap (λ b. b && k == f.object.0) works.parent
up-takes tree f outs k Requests works no_it = cc
up-takes tree f outs k Answers works no_it = refl

down-takes : (tree : Tree) (f : Firing) (outs : Outs) (k : ℕ) (lane : Lane) → WorksDown outs → asks lane ≡ true → takes tree f outs k lane ≡ false
down-takes tree f outs k UpRequests works is = rw works.me refl
down-takes tree f outs k Requests works is = rw works.me refl
down-takes tree f outs k _ works is = cc

up-reaches : (tree : Tree) (f : Firing) (outs : Outs) (k : ℕ) (lane : Lane) → WorksUp outs → (lane ≡ UpRequests → ⊥) → reaches tree f outs.to k lane ≡ false
up-reaches tree f outs k UpRequests works other = absurd (other refl)
up-reaches tree f outs k UpResponses works other = rw works.sends refl
up-reaches tree f outs k Down works other = rw works.sends refl
up-reaches tree f outs k Requests works other = rw works.sends refl
up-reaches tree f outs k Answers works other = rw works.sends refl

down-reaches : (tree : Tree) (f : Firing) (outs : Outs) (k : ℕ) → WorksDown outs → reaches tree f outs.to k UpRequests ≡ false
down-reaches tree f outs k works = elim works.sends [ inl response ↦ rw response refl | inr kids ↦ rw kids.1 refl ]

-- where the request or all others fail a test, both orders of a window pass alike
either-none : (test : Entry → Bool) (u : Entry) (others : List Entry) → (test u ≡ false) ⊎ Each (λ x. test x ≡ false) others → filter test (others ++ u ∷ []) ≡ filter test (u ∷ others)
either-none test u others (inl fails) = filter-append test others (u ∷ []) ∙ (rw fails (append-nil (filter test others)))
either-none test u others (inr none) =
    let nothing = filter-no test others none in
    filter-append test others (u ∷ []) ∙ (rw nothing refl)

-- a window takes from each list in the same order
window-takers : (p : Protocol) (tree : Tree) (before : Option Local) (after : Local) (k : ℕ) (lane : Lane) (request : Option Entry) (others : List Entry) → IsChain p tree before (map event_of (option_to_list request ++ others)) (Some after) → EndsReady p tree before request others after → takers event_of tree k lane (others ++ option_to_list request) ≡ takers event_of tree k lane (option_to_list request ++ others)
window-takers p tree before after k lane None others chain ready = ap (takers event_of tree k lane) (append-nil others)
window-takers p tree before after k lane (Some u) others chain ready =
    let up = event-up p tree before u.event chain.0 ready.0 chain.1 in
    let down = chain-down p tree others (Some chain.0) (Some after) ready.1 chain.2 in
    either-none (λ x. takes tree x.event.firing x.event.outs k lane) u others (by_lane (asks lane) refl up down)
  where
    by_lane : (b : Bool) → asks lane ≡ b → WorksUp u.event.outs → Each (λ x. WorksDown x.event.outs) others → (takes tree u.event.firing u.event.outs k lane ≡ false) ⊎ Each (λ x. takes tree x.event.firing x.event.outs k lane ≡ false) others
    by_lane true is up down = inr (each-map (λ x. WorksDown x.event.outs) (λ x. takes tree x.event.firing x.event.outs k lane ≡ false) others (λ x works. down-takes tree x.event.firing x.event.outs k lane works is) down)
    by_lane false is up down = inl (up-takes tree u.event.firing u.event.outs k lane up is)

-- and sends to each list in the same order
window-senders : (p : Protocol) (tree : Tree) (before : Option Local) (after : Local) (k : ℕ) (lane : Lane) (request : Option Entry) (others : List Entry) → IsChain p tree before (map event_of (option_to_list request ++ others)) (Some after) → EndsReady p tree before request others after → senders event_of tree k lane (others ++ option_to_list request) ≡ senders event_of tree k lane (option_to_list request ++ others)
window-senders p tree before after k lane None others chain ready = ap (senders event_of tree k lane) (append-nil others)
window-senders p tree before after k lane (Some u) others chain ready =
    let up = event-up p tree before u.event chain.0 ready.0 chain.1 in
    let down = chain-down p tree others (Some chain.0) (Some after) ready.1 chain.2 in
    either-none (λ x. reaches tree x.event.firing x.event.outs.to k lane) u others (by_lane lane up down)
  where
    by_lane : (lane : Lane) → WorksUp u.event.outs → Each (λ x. WorksDown x.event.outs) others → (reaches tree u.event.firing u.event.outs.to k lane ≡ false) ⊎ Each (λ x. reaches tree x.event.firing x.event.outs.to k lane ≡ false) others
    by_lane UpRequests up down = inr (each-map (λ x. WorksDown x.event.outs) (λ x. reaches tree x.event.firing x.event.outs.to k UpRequests ≡ false) others (λ x works. down-reaches tree x.event.firing x.event.outs k works) down)
    by_lane UpResponses up down = inl (up-reaches tree u.event.firing u.event.outs k UpResponses up (λ is. cc))
    by_lane Down up down = inl (up-reaches tree u.event.firing u.event.outs k Down up (λ is. cc))
    by_lane Requests up down = inl (up-reaches tree u.event.firing u.event.outs k Requests up (λ is. cc))
    by_lane Answers up down = inl (up-reaches tree u.event.firing u.event.outs k Answers up (λ is. cc))

-- so do windows one after another
pub windows-takers : (p : Protocol) (tree : Tree) (k : ℕ) (lane : Lane) (ws : List Window) (before after : Option Local) → AreWindows p tree before ws after → takers event_of tree k lane (flat_map as_moved ws) ≡ takers event_of tree k lane (flat_map as_made ws)
windows-takers p tree k lane [] before after are = refl
windows-takers p tree k lane (w ∷ ws) before after are =
    let test = λ (x : Entry). takes tree x.event.firing x.event.outs k lane in
    filter-append test (as_moved w) (flat_map as_moved ws)
    ∙ ap (λ xs. xs ++ takers event_of tree k lane (flat_map as_moved ws)) (window-takers p tree before are.0 k lane w.request w.others are.1 are.2)
    ∙ ap (λ xs. takers event_of tree k lane (as_made w) ++ xs) (windows-takers p tree k lane ws (Some are.0) after are.3)
    ∙ sym (filter-append test (as_made w) (flat_map as_made ws))

pub windows-senders : (p : Protocol) (tree : Tree) (k : ℕ) (lane : Lane) (ws : List Window) (before after : Option Local) → AreWindows p tree before ws after → senders event_of tree k lane (flat_map as_moved ws) ≡ senders event_of tree k lane (flat_map as_made ws)
windows-senders p tree k lane [] before after are = refl
windows-senders p tree k lane (w ∷ ws) before after are =
    let test = λ (x : Entry). reaches tree x.event.firing x.event.outs.to k lane in
    filter-append test (as_moved w) (flat_map as_moved ws)
    ∙ ap (λ xs. xs ++ senders event_of tree k lane (flat_map as_moved ws)) (window-senders p tree before are.0 k lane w.request w.others are.1 are.2)
    ∙ ap (λ xs. senders event_of tree k lane (as_made w) ++ xs) (windows-senders p tree k lane ws (Some are.0) after are.3)
    ∙ sym (filter-append test (as_made w) (flat_map as_made ws))
