-- The channels that an event takes from are those from whose head it takes.
use Rattle.std.proofs.Common.{◌≡◌, ◌≢◌, refl, ap, sym, ◌∙◌, ℕ, Bool, true, false, cond, List, [], ◌∷◌, map, Option, Some, None}
use Rattle.std.specs.Prelude.{length, filter, slice_set, option_to_list}
use Rattle.std.proofs.lemmas.Bool.{eq-eqb}
use Rattle.hem_base.specs.Sets.{has_bit}
use Rattle.hem_base.specs.declared.ids.ObjectId.{ObjectId}
use Rattle.hem_base.specs.declared.ids.Firing.{Firing}
use Rattle.hem_syntax.specs.Protocol.{Protocol}
use Rattle.hem_tree.specs.Tree.{Tree, below, is_child, children_of, place_among}
use Rattle.hem_system.specs.declared.lane.Lane.TheVariants.{UpRequests, UpResponses, Down, Requests}
use Rattle.hem_system.specs.State.{State, Line, LineStep, is_own_child, own_effect, effect_of, local_at, heads_of, line_after, line_step_of, fire, run}
use Rattle.hem_system.specs.Events.{Event}
use Rattle.hem_trace.specs.History.{Channel, channels_taken, takes_from, events}
use Rattle.hem_trace.specs.Blocks.{Each}
use Rattle.hem_rows.proofs.Choices.{if_some, if_mapped}
use Rattle.hem_law.proofs.OwnEffect.{own_effect-parts}
use Rattle.hem_law.proofs.ListFacts.{each-map, each-append, each-filter, each-passes, each-both}
use Rattle.hem_law.proofs.AllLines.{made-on}

-- the child that an event names is its object's
abbrev pub NamesOwnChild : Tree → Event → Type 0
NamesOwnChild tree e = is_own_child tree e.firing.object.0 e.firing.me ≡ true

made-own : (p : Protocol) (tree : Tree) (line : Line) (f : Firing) (step : LineStep) → line_step_of p tree line f ≡ Some step → is_own_child tree f.object.0 f.me ≡ true
made-own p tree line f step is =
    let one = if_mapped {B = LineStep} (λ e. record { effect = e; next = line_after tree f e line }) (effect_of p tree line f) step is in
    let two = if_some (λ local. own_effect p tree f local (heads_of tree line f.object.0 f.me)) (local_at line f.object.0) one.0 one.1 in
    (own_effect-parts p tree f two.0 (heads_of tree line f.object.0 f.me) one.0 two.2).child

-- so of all events of a run
pub run-own : (p : Protocol) (tree : Tree) (s : State) (h : List Firing) (new : State) → run p tree s h ≡ Some new → Each (NamesOwnChild tree) (events p tree s h)
run-own p tree s [] new ran = tt
run-own p tree s (f ∷ h) new ran =
    let one = if_some (λ next. run p tree next h) (fire p tree s f) new ran in
    let on = made-on p tree s f one.0 one.1 in
    let next = slice_set s f.line.0 on.step.next in
    let rest = run-own p tree next h new (ap (λ x. run p tree x h) on.set ∙ one.2) in
    rw (on.whole, events) (made-own p tree on.line f on.step on.made, rest)

pub each-mapped : {A B : Type 0} (P : B → Type 0) (f : A → B) (xs : List A) → Each (λ x. P (f x)) xs → Each P (map f xs)
each-mapped P f [] all = tt
each-mapped P f (x ∷ xs) all = (all.0, each-mapped P f xs all.1)

pub each-unmapped : {A B : Type 0} (P : B → Type 0) (f : A → B) (xs : List A) → Each P (map f xs) → Each (λ x. P (f x)) xs
each-unmapped P f [] all = tt
each-unmapped P f (x ∷ xs) all = (all.0, each-unmapped P f xs all.1)

-- the channel isn't a processor's requests, and the event takes its head
abbrev pub IsTakenFrom : Tree → Event → Channel → Type 0
IsTakenFrom tree e c = (c.lane ≢ Requests) × (takes_from tree c e ≡ true)

up_requests : UpRequests ≢ Requests
up_requests is = cc

up_responses : UpResponses ≢ Requests
up_responses is = cc

down : Down ≢ Requests
down is = cc

me-channel : (tree : Tree) (e : Event) (taken : Bool) (me : Option ObjectId) → e.outs.taken_request ≡ taken → e.firing.me ≡ me → NamesOwnChild tree e → Each (IsTakenFrom tree e) (map (λ child. record { line = e.firing.line.0; object = child.0; lane = UpRequests }) (cond taken (option_to_list me) []))
me-channel tree e false me is named own = tt
me-channel tree e true None is named own = tt
me-channel tree e true (Some child) is named own =
    let l = e.firing.line.0 in
    let child_is : is_child tree child.0 e.firing.object.0 ≡ true = ap (is_own_child tree e.firing.object.0) (sym named) ∙ own in
    ((up_requests, rw (eq-eqb l l refl, is, named, eq-eqb child.0 child.0 refl, child_is) refl), tt)

parent-channel : (tree : Tree) (e : Event) (taken : Bool) → e.outs.taken_parent ≡ taken → Each (IsTakenFrom tree e) (cond taken (record { line = e.firing.line.0; object = e.firing.object.0; lane = Down } ∷ []) [])
parent-channel tree e false is = tt
parent-channel tree e true is =
    let l = e.firing.line.0 in
    let o = e.firing.object.0 in
    ((down, rw (eq-eqb l l refl, is, eq-eqb o o refl) refl), tt)

kid-channels : (tree : Tree) (e : Event) → Each (IsTakenFrom tree e) (map (λ k. record { line = e.firing.line.0; object = k; lane = UpResponses }) (filter (λ k. has_bit e.outs.taken_kids.0 (place_among tree e.firing.object.0 k)) (children_of tree e.firing.object.0)))
kid-channels tree e =
    let l = e.firing.line.0 in
    let o = e.firing.object.0 in
    let bit = λ (k : ℕ). has_bit e.outs.taken_kids.0 (place_among tree o k) in
    each-mapped (IsTakenFrom tree e) (λ k. record { line = l; object = k; lane = UpResponses }) (filter bit (children_of tree o))
    (each-map (λ k. (bit k ≡ true) × (is_child tree k o ≡ true)) (λ k. IsTakenFrom tree e (record { line = l; object = k; lane = UpResponses })) (filter bit (children_of tree o))
    (λ k it. (up_responses, rw (eq-eqb l l refl, it.1, it.0) refl))
    (each-both (λ k. bit k ≡ true) (λ k. is_child tree k o ≡ true) (filter bit (children_of tree o)) (each-passes bit (children_of tree o)) (each-filter (λ k. is_child tree k o ≡ true) bit (children_of tree o) (each-passes (λ k. is_child tree k o) (below (length tree))))))

pub channels-taken : (tree : Tree) (e : Event) → NamesOwnChild tree e → Each (IsTakenFrom tree e) (channels_taken tree e)
channels-taken tree e own =
    each-append (IsTakenFrom tree e) _ _
    (each-append (IsTakenFrom tree e) _ _ (me-channel tree e e.outs.taken_request e.firing.me refl refl own) (parent-channel tree e e.outs.taken_parent refl))
    (kid-channels tree e)
