-- Flows of lists by what is taken and sent.
use Rattle.std.proofs.Common.{◌≡◌, refl, ap, sym, ◌∙◌, subst, ℕ, ◌+◌, ◌-◌, ◌<◌, Bool, true, false, ◌&&◌, cond, List, [], ◌∷◌, ◌++◌, length, drop, arith, append_assoc, Option, Some, None, inl, inr, ◌⊎◌}
use Rattle.std.specs.Prelude.{◌==◌, flat_map, slice_get, option_to_list}
use Rattle.std.proofs.lemmas.Bool.{eq-eqb}
use Rattle.std.proofs.lemmas.List.{append-nil, length-append, length-drop}
use Rattle.hem_base.specs.declared.ids.Message.{Message}
use Rattle.hem_system.specs.declared.lane.Lane.{Lane}
use Rattle.hem_system.specs.declared.lane.Lane.TheVariants.{UpRequests, UpResponses, Down, Requests, Answers}
use Rattle.hem_syntax.specs.Protocol.{Protocol}
use Rattle.hem_tree.specs.Tree.{Tree, is_child, place_among}
use Rattle.hem_object.specs.Local.{Local}
use Rattle.hem_system.specs.State.{Line, local_at, list_at, list_after, takes, reaches, taker_of, sender_of, run_line}
use Rattle.hem_system.specs.Events.{Event}
use Rattle.hem_trace.specs.History.{head_seen, line_events}
use Rattle.hem_trace.specs.Blocks.{Each}
use Rattle.hem_law.specs.Chains.{own_events, firings, heads_seen, IsChain}
use Rattle.hem_law.specs.Flows.{IsFlow, taken_on, sent_on, all_taken, all_sent, IsFed}
use Rattle.hem_law.specs.Leads.{Leads, Fits}
use Rattle.hem_system.proofs.Takers.{taker_is, sender_is}
use Rattle.hem_rows.proofs.Choices.{both}
use Rattle.hem_law.proofs.Taken.{HasMessage, TakesThere, takes-there, kid-at}
use Rattle.hem_law.proofs.LawRun.{effect_in, own-first, law-run, law-events}

-- the events of an object, if one is named
abbrev pub owned : Option ℕ → List Event → List Event
owned None es = []
owned (Some o) es = own_events o es

-- what events give at a list is what its owner's events give
flat_map-skip : {A : Type 0} (t : Event → List A) (b : Bool) (e : Event) (es : List Event) → t e ≡ [] → flat_map t (cond b (e ∷ es) es) ≡ flat_map t es
flat_map-skip t true e es none = rw none refl
flat_map-skip t false e es none = refl

pub flat_map-owned : {A : Type 0} (t : Event → List A) (o : Option ℕ) (es : List Event) → ((e : Event) → (t e ≡ []) ⊎ (o ≡ Some e.firing.object.0)) → flat_map t es ≡ flat_map t (owned o es)
flat_map-owned t None [] only = refl
flat_map-owned t (Some o) [] only = refl
flat_map-owned t None (e ∷ es) only = elim (only e) [ inl none ↦ rw none (flat_map-owned t None es only) | inr mine ↦ cc ]
flat_map-owned t (Some o) (e ∷ es) only =
    elim (only e) [
      | inl none ↦ ap (λ x. x ++ flat_map t es) none ∙ flat_map-owned t (Some o) es only ∙ sym (flat_map-skip t (e.firing.object.0 == o) e (own_events o es) none)
      | inr mine ↦ (let same : e.firing.object.0 ≡ o = cc in rw (eq-eqb e.firing.object.0 o same) (ap (λ rest. t e ++ rest) (flat_map-owned t (Some o) es only)))
    ]

taken-owner : (tree : Tree) (k : ℕ) (lane : Lane) (e : Event) (b : Bool) → takes tree e.firing e.outs k lane ≡ b → (cond b (option_to_list (head_seen tree e k lane)) [] ≡ []) ⊎ (taker_of tree k lane ≡ Some e.firing.object.0)
taken-owner tree k lane e false is = inl refl
taken-owner tree k lane e true is = inr (taker_is tree e.firing e.outs k lane is)

sent-owner : (tree : Tree) (k : ℕ) (lane : Lane) (e : Event) (b : Bool) → reaches tree e.firing e.outs.to k lane ≡ b → (cond b (e.outs.message ∷ []) [] ≡ []) ⊎ (sender_of tree k lane ≡ Some e.firing.object.0)
sent-owner tree k lane e false is = inl refl
sent-owner tree k lane e true is = inr (sender_is tree e.firing e.outs.to k lane is)

pub all_taken-owned : (tree : Tree) (k : ℕ) (lane : Lane) (es : List Event) → all_taken tree k lane es ≡ all_taken tree k lane (owned (taker_of tree k lane) es)
all_taken-owned tree k lane es = flat_map-owned (taken_on tree k lane) (taker_of tree k lane) es (λ e. taken-owner tree k lane e (takes tree e.firing e.outs k lane) refl)

pub all_sent-owned : (tree : Tree) (k : ℕ) (lane : Lane) (es : List Event) → all_sent tree k lane es ≡ all_sent tree k lane (owned (sender_of tree k lane) es)
all_sent-owned tree k lane es = flat_map-owned (sent_on tree k lane) (sender_of tree k lane) es (λ e. sent-owner tree k lane e (reaches tree e.firing e.outs.to k lane) refl)

-- an event saw the messages that it takes
abbrev pub SeesTaken : Tree → Event → Type 0
SeesTaken tree e = (k : ℕ) (lane : Lane) → takes tree e.firing e.outs k lane ≡ true → HasMessage (head_seen tree e k lane)

sees-taken : (tree : Tree) (e : Event) → TakesThere e.outs (heads_seen tree e) → SeesTaken tree e
sees-taken tree e there k UpRequests takes = there.request (both _ _ (both (e.outs.taken_request && _) _ takes).0).0
sees-taken tree e there k UpResponses takes =
    let parts = both (is_child tree k e.firing.object.0) _ takes in
    there.kids (place_among tree e.firing.object.0 k) _ parts.1 (kid-at tree e.firing.object.0 k (λ k. head_seen tree e k UpResponses) parts.0)
sees-taken tree e there k Down takes = there.parent (both e.outs.taken_parent _ takes).0
sees-taken tree e there k Requests takes = there.request (both e.outs.taken_request _ (both (e.outs.taken_request && _) _ takes).0).0
sees-taken tree e there k Answers takes = cc

-- so do the events of a chain
pub chain-sees : (p : Protocol) (tree : Tree) (es : List Event) (start end : Option Local) → IsChain p tree start es end → Each (SeesTaken tree) es
chain-sees p tree [] start end chain = tt
chain-sees p tree (e ∷ es) start end chain = (sees-taken tree e (takes-there p tree e.firing chain.1.now (heads_seen tree e) (effect_in e chain.0) chain.1.fires), chain-sees p tree es (Some chain.0) end chain.2)

-- what holds of each object's events holds of all
Each-tail : (P : Event → Type 0) (b : Bool) (e : Event) (es : List Event) → Each P (cond b (e ∷ es) es) → Each P es
Each-tail P true e es all = all.1
Each-tail P false e es all = all

pub Each-owned : (P : Event → Type 0) (es : List Event) → ((o : ℕ) → Each P (own_events o es)) → Each P es
Each-owned P [] all = tt
Each-owned P (e ∷ es) all = (
  (subst (Each P) (own-first e es) (all e.firing.object.0)).0,
  Each-owned P es (λ o. Each-tail P (e.firing.object.0 == o) e (own_events o es) (all o)),
)

-- one step of a flow
flow-step : (b : Bool) (seen : Option Message) (xs sent taken later ys : List Message) → (b ≡ true → HasMessage seen) → (b ≡ true → 0 < length xs) → (cond b (option_to_list seen) [] ++ taken) ++ ys ≡ xs ++ (sent ++ later) → (b ≡ true → (m : Message) × (slice_get xs 0 ≡ Some m) × (seen ≡ Some m)) × (taken ++ ys ≡ (drop (cond b 1 0) xs ++ sent) ++ later)
flow-step false seen xs sent taken later ys there fed same = ((λ no. cc), same ∙ sym (append_assoc xs sent later))
flow-step true None xs sent taken later ys there fed same = let has = there refl in absurd (let no : None ≡ Some has.0 = has.1 in cc)
flow-step true (Some m) [] sent taken later ys there fed same = absurd (let no : 0 < 0 = fed refl in omega arith)
flow-step true (Some m) (x ∷ xs) sent taken later ys there fed same =
    let head : x ≡ m = cc in
    let tail : taken ++ ys ≡ xs ++ (sent ++ later) = cc in
    ((λ yes. (m, ap Some head, refl)), tail ∙ sym (append_assoc xs sent later))

-- what is taken and sent in order, and fed, flows
pub flow-from : (tree : Tree) (k : ℕ) (lane : Lane) (es : List Event) (xs ys : List Message) → Each (SeesTaken tree) es → all_taken tree k lane es ++ ys ≡ xs ++ all_sent tree k lane es → IsFed tree k lane (length xs) es → IsFlow tree k lane xs es ys
flow-from tree k lane [] xs ys sees same fed = sym (same ∙ append-nil xs)
flow-from tree k lane (e ∷ es) xs ys sees same fed =
    let step = flow-step (takes tree e.firing e.outs k lane) (head_seen tree e k lane) xs (sent_on tree k lane e) (all_taken tree k lane es) (all_sent tree k lane es) ys (sees.0 k lane) fed.0 same in
    let left = list_after tree e.firing e.outs k lane xs in
    let size : length left ≡ length xs - cond (takes tree e.firing e.outs k lane) 1 0 + length (sent_on tree k lane e) = length-append (drop (cond (takes tree e.firing e.outs k lane) 1 0) xs) (sent_on tree k lane e) ∙ ap (λ n. n + length (sent_on tree k lane e)) (length-drop (cond (takes tree e.firing e.outs k lane) 1 0) xs) in
    ((λ t. let it = step.0 t in record { message = it.0; first = it.1; seen = it.2 }), flow-from tree k lane es left ys sees.1 step.1 (subst (λ n. IsFed tree k lane n es) (sym size) fed.1))

-- a list to which nobody sends is fed where what is taken is there
unsent-step : (b : Bool) (seen : Option Message) (taken xs ys : List Message) → (b ≡ true → HasMessage seen) → (cond b (option_to_list seen) [] ++ taken) ++ ys ≡ xs → (b ≡ true → 0 < length xs) × ((left : List Message) × (length left ≡ length xs - cond b 1 0 + 0) × (taken ++ ys ≡ left))
unsent-step false seen taken xs ys there same = ((λ is. cc), (xs, omega arith, same))
unsent-step true None taken xs ys there same = let has = there refl in absurd (let none : None ≡ Some has.0 = has.1 in cc)
unsent-step true (Some m) taken [] ys there same = absurd cc
unsent-step true (Some m) taken (x ∷ xs) ys there same = ((λ is. omega arith), (xs, omega arith, (let tail : taken ++ ys ≡ xs = cc in tail)))

pub fed-unsent : (tree : Tree) (k : ℕ) (lane : Lane) (es : List Event) (xs ys : List Message) → sender_of tree k lane ≡ None → Each (SeesTaken tree) es → all_taken tree k lane es ++ ys ≡ xs → IsFed tree k lane (length xs) es
fed-unsent tree k lane [] xs ys none sees same = tt
fed-unsent tree k lane (e ∷ es) xs ys none sees same =
    let step = unsent-step (takes tree e.firing e.outs k lane) (head_seen tree e k lane) (all_taken tree k lane es) xs ys (sees.0 k lane) same in
    let no_send : sent_on tree k lane e ≡ [] = elim (sent-owner tree k lane e (reaches tree e.firing e.outs.to k lane) refl) [ inl it ↦ it | inr it ↦ (let bad : None ≡ Some e.firing.object.0 = sym none ∙ it in cc) ] in
    let size : length step.1.0 ≡ length xs - cond (takes tree e.firing e.outs k lane) 1 0 + length (sent_on tree k lane e) = step.1.1 ∙ ap (λ ms. length xs - cond (takes tree e.firing e.outs k lane) 1 0 + length ms) (sym no_send) in
    (step.0, subst (λ n. IsFed tree k lane n es) size (fed-unsent tree k lane es step.1.0 ys none sees.1 step.1.2))

-- the other way round
flow-back : (b : Bool) (seen : Option Message) (xs sent taken later ys : List Message) → (b ≡ true → (m : Message) × (slice_get xs 0 ≡ Some m) × (seen ≡ Some m)) → taken ++ ys ≡ (drop (cond b 1 0) xs ++ sent) ++ later → (cond b (option_to_list seen) [] ++ taken) ++ ys ≡ xs ++ (sent ++ later)
flow-back false seen xs sent taken later ys first same = same ∙ append_assoc xs sent later
flow-back true seen [] sent taken later ys first same = let it = first refl in absurd (let no : None ≡ Some it.0 = it.1 in cc)
flow-back true None (x ∷ xs) sent taken later ys first same = let it = first refl in absurd (let no : None ≡ Some it.0 = it.2 in cc)
flow-back true (Some m) (x ∷ xs) sent taken later ys first same =
    let it = first refl in
    let head : Some x ≡ Some m = it.1 ∙ sym it.2 in
    let one : m ≡ x = cc in
    let tail = same ∙ append_assoc xs sent later in
    cc

pub flow-carries : (tree : Tree) (k : ℕ) (lane : Lane) (es : List Event) (xs ys : List Message) → IsFlow tree k lane xs es ys → all_taken tree k lane es ++ ys ≡ xs ++ all_sent tree k lane es
flow-carries tree k lane [] xs ys flow = sym flow ∙ sym (append-nil xs)
flow-carries tree k lane (e ∷ es) xs ys flow =
    flow-back (takes tree e.firing e.outs k lane) (head_seen tree e k lane) xs (sent_on tree k lane e) (all_taken tree k lane es) (all_sent tree k lane es) ys
    (λ t. let it = flow.0 t in (it.message, it.first, it.seen))
    (flow-carries tree k lane es (list_after tree e.firing e.outs k lane xs) ys flow.1)

-- events that fit lead
pub fits-leads : (p : Protocol) (tree : Tree) (old : Line) (es : List Event) (new : Line) → Fits p tree old es new → Leads p tree old es new
fits-leads p tree old es new fits =
    let sees = Each-owned (SeesTaken tree) es (λ o. chain-sees p tree (own_events o es) (local_at old o) (local_at new o) (fits.chains o)) in
    record { size = fits.size; chains = fits.chains; flows = λ k lane. flow-from tree k lane es (list_at old k lane) (list_at new k lane) sees (fits.carried k lane) (fits.fed k lane) }

-- events that fit run, and are the run's events
pub law : (p : Protocol) (tree : Tree) (old : Line) (es : List Event) (new : Line) → Fits p tree old es new → (run_line p tree old (firings es) ≡ Some new) × (line_events p tree old (firings es) ≡ es)
law p tree old es new fits = let leads = fits-leads p tree old es new fits in (law-run p tree old es new leads, law-events p tree old es new leads)
