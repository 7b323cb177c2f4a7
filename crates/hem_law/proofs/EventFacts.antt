-- What holds of each event of a run: it takes in one way, and from lists that have a message.
use Rattle.std.proofs.Common.{◌≡◌, ◌≢◌, refl, ap, sym, ◌∙◌, subst, ℕ, ◌+◌, ◌-◌, ◌<◌, Bool, true, false, ◌&&◌, cond, List, [], ◌∷◌, length, drop, arith, Option, Some, None}
use Rattle.std.specs.Prelude.{◌==◌, filter, slice_get, slice_set, is_none}
use Rattle.std.proofs.lemmas.List.{length-append, length-drop}
use Rattle.hem_base.specs.Sets.{has_bit}
use Rattle.hem_base.specs.declared.ids.Message.{Message}
use Rattle.hem_base.specs.declared.ids.ObjectId.{ObjectId}
use Rattle.hem_base.specs.declared.ids.Kind.{Kind}
use Rattle.hem_base.specs.declared.ids.Firing.{Firing}
use Rattle.hem_syntax.specs.declared.rule.Rule.{Rule}
use Rattle.hem_syntax.specs.declared.rule.Take.{Take}
use Rattle.hem_syntax.specs.declared.rule.Take.TheVariants as take
use Rattle.hem_syntax.specs.Protocol.{Protocol}
use Rattle.hem_object.specs.Local.{Local}
use Rattle.hem_tree.specs.Tree.{Tree, children_of, place_among}
use Rattle.hem_fire.specs.declared.outs.Outs.{Outs}
use Rattle.hem_fire.specs.OneFire.{Heads, can_fire, outs_of}
use Rattle.hem_system.specs.declared.lane.Lane.{Lane}
use Rattle.hem_system.specs.State.{State, Line, LineStep, Effect, own_effect, effect_of, place_of_me, local_at, heads_of, list_after, line_after, line_step_of, takes, reaches, fire, run}
use Rattle.hem_system.specs.Events.{Event}
use Rattle.hem_trace.specs.History.{Channel, channels_taken, takes_from, sends_to, events}
use Rattle.hem_trace.specs.Blocks.{Each}
use Rattle.hem_law.specs.Flows.{IsFlow, IsFed, sent_on}
use Rattle.hem_rows.proofs.Choices.{chosen, if_some, if_mapped}
use Rattle.hem_law.proofs.OwnEffect.{own_effect-parts}
use Rattle.hem_law.proofs.Fed.{cond_length}
use Rattle.hem_law.proofs.AllLines.{made-on}

-- what takes the requester's message takes no other
abbrev pub TakesOneWay : Outs → Type 0
TakesOneWay outs = outs.taken_request ≡ true → (outs.taken_parent ≡ false) × (outs.taken_kids.0 ≡ 0)

one-way : (t : Take) (p : Protocol) (kind : Kind) (rule : Rule) (me : Option ℕ) (local : Local) (heads : Heads) → rule.take ≡ t → TakesOneWay (outs_of p kind rule me local heads)
one-way (take.Me id) p kind rule me local heads is taken = (rw is refl, rw is refl)
one-way (take.Parent id) p kind rule me local heads is taken = let no_it : false ≡ true = rw is at taken in cc
one-way (take.Kids id) p kind rule me local heads is taken = let no_it : false ≡ true = rw is at taken in cc
one-way take.Nothing p kind rule me local heads is taken = let no_it : false ≡ true = rw is at taken in cc

made-one_way : (p : Protocol) (tree : Tree) (line : Line) (f : Firing) (step : LineStep) → line_step_of p tree line f ≡ Some step → TakesOneWay step.effect.outs
made-one_way p tree line f step is =
    let one = if_mapped {B = LineStep} (λ e. record { effect = e; next = line_after tree f e line }) (effect_of p tree line f) step is in
    let same : one.0 ≡ step.effect = ap (λ (s : LineStep). s.effect) one.2 in
    let heads = heads_of tree line f.object.0 f.me in
    let two = if_some (λ local. own_effect p tree f local heads) (local_at line f.object.0) one.0 one.1 in
    let parts = own_effect-parts p tree f two.0 heads one.0 two.2 in
    let it = chosen (can_fire p parts.kind parts.rule (place_of_me tree f.object.0 f.me) two.0 heads) _ one.0 parts.effect in
    subst (λ (e : Effect). TakesOneWay e.outs) same (subst (λ (e : Effect). TakesOneWay e.outs) it.1 (one-way parts.rule.take p parts.kind parts.rule (place_of_me tree f.object.0 f.me) two.0 heads refl))

-- so each event of a run
pub run-one_way : (p : Protocol) (tree : Tree) (s : State) (h : List Firing) (new : State) → run p tree s h ≡ Some new → Each (λ e. TakesOneWay e.outs) (events p tree s h)
run-one_way p tree s [] new ran = tt
run-one_way p tree s (f ∷ h) new ran =
    let one = if_some (λ next. run p tree next h) (fire p tree s f) new ran in
    let on = made-on p tree s f one.0 one.1 in
    let next = slice_set s f.line.0 on.step.next in
    let rest = run-one_way p tree next h new (ap (λ x. run p tree x h) on.set ∙ one.2) in
    rw (on.whole, events) (made-one_way p tree on.line f on.step on.made, rest)

-- an event that takes a processor's request takes from no channel
filter-nothing : (tree : Tree) (o : ℕ) (ks : List ℕ) → filter (λ k. has_bit 0 (place_among tree o k)) ks ≡ []
filter-nothing tree o [] = refl
filter-nothing tree o (k ∷ ks) = let none : has_bit 0 (place_among tree o k) ≡ false = grind arith in rw none (filter-nothing tree o ks)

no_bits : (tree : Tree) (o : ℕ) (bits : ℕ) (ks : List ℕ) → bits ≡ 0 → filter (λ k. has_bit bits (place_among tree o k)) ks ≡ []
no_bits tree o bits ks none = ap (λ (b : ℕ). filter (λ k. has_bit b (place_among tree o k)) ks) none ∙ filter-nothing tree o ks

pub request-alone : (tree : Tree) (e : Event) → TakesOneWay e.outs → channels_taken tree e ≢ [] → (e.outs.taken_request && is_none e.firing.me) ≡ false
request-alone tree e one some = by_request e.outs.taken_request e.firing.me refl refl
  where
    by_request : (taken : Bool) (me : Option ObjectId) → e.outs.taken_request ≡ taken → e.firing.me ≡ me → (taken && is_none me) ≡ false
    by_request false me is named = refl
    by_request true (Some child) is named = refl
    by_request true None is named =
        let alone = one is in
        let kids = no_bits tree e.firing.object.0 e.outs.taken_kids.0 (children_of tree e.firing.object.0) alone.1 in
        absurd (some (rw (is, named, alone.0, kids) refl))

-- a channel of so many messages is never empty when an event takes from it
abbrev pub IsFedOn : Tree → Channel → ℕ → List Event → Type 0
IsFedOn tree c n [] = Unit {0}
IsFedOn tree c n (e ∷ es) =
    (takes_from tree c e ≡ true → 0 < n)
    × IsFedOn tree c (n - cond (takes_from tree c e) 1 0 + cond (sends_to tree c e) 1 0) es

-- by its line's events
pub fed-on : (tree : Tree) (c : Channel) (n : ℕ) (es : List Event) → IsFed tree c.object c.lane n (filter (λ e. e.firing.line.0 == c.line) es) → IsFedOn tree c n es
fed-on tree c n [] fed = tt
fed-on tree c n (e ∷ es) fed = by_line (e.firing.line.0 == c.line) refl fed (λ m rest. fed-on tree c m es rest)
  where
    by_line : (b : Bool) → (e.firing.line.0 == c.line) ≡ b → IsFed tree c.object c.lane n (cond b (e ∷ filter (λ e. e.firing.line.0 == c.line) es) (filter (λ e. e.firing.line.0 == c.line) es)) → ((m : ℕ) → IsFed tree c.object c.lane m (filter (λ e. e.firing.line.0 == c.line) es) → IsFedOn tree c m es) → IsFedOn tree c n (e ∷ es)
    by_line true is fed rest =
        let t : takes_from tree c e ≡ takes tree e.firing e.outs c.object c.lane = ap (λ b. b && takes tree e.firing e.outs c.object c.lane) is in
        let r : sends_to tree c e ≡ reaches tree e.firing e.outs.to c.object c.lane = ap (λ b. b && reaches tree e.firing e.outs.to c.object c.lane) is in
        let size : n - cond (takes tree e.firing e.outs c.object c.lane) 1 0 + length (sent_on tree c.object c.lane e) ≡ n - cond (takes_from tree c e) 1 0 + cond (sends_to tree c e) 1 0 =
        ap (λ m. n - cond (takes tree e.firing e.outs c.object c.lane) 1 0 + m) (cond_length (reaches tree e.firing e.outs.to c.object c.lane) e.outs.message) ∙ ap (λ b. n - cond b 1 0 + cond (reaches tree e.firing e.outs.to c.object c.lane) 1 0) (sym t) ∙ ap (λ b. n - cond (takes_from tree c e) 1 0 + cond b 1 0) (sym r) in
        ((λ taken. fed.0 (sym t ∙ taken)), subst (λ m. IsFedOn tree c m es) size (rest _ fed.1))
    by_line false is fed rest =
        let t : takes_from tree c e ≡ false = ap (λ b. b && takes tree e.firing e.outs c.object c.lane) is in
        let r : sends_to tree c e ≡ false = ap (λ b. b && reaches tree e.firing e.outs.to c.object c.lane) is in
        let size : n ≡ n - cond (takes_from tree c e) 1 0 + cond (sends_to tree c e) 1 0 = (let same : n ≡ n - 0 + 0 = omega arith in same ∙ ap (λ b. n - cond b 1 0 + 0) (sym t) ∙ ap (λ b. n - cond (takes_from tree c e) 1 0 + cond b 1 0) (sym r)) in
        ((λ taken. let clash : true ≡ false = sym taken ∙ t in cc), subst (λ m. IsFedOn tree c m es) size (rest n fed))

-- a flow is fed
pub flow-fed : (tree : Tree) (k : ℕ) (lane : Lane) (es : List Event) (xs ys : List Message) → IsFlow tree k lane xs es ys → IsFed tree k lane (length xs) es
flow-fed tree k lane [] xs ys flow = tt
flow-fed tree k lane (e ∷ es) xs ys flow =
    let left = list_after tree e.firing e.outs k lane xs in
    let size : length left ≡ length xs - cond (takes tree e.firing e.outs k lane) 1 0 + length (sent_on tree k lane e) = length-append (drop (cond (takes tree e.firing e.outs k lane) 1 0) xs) (sent_on tree k lane e) ∙ ap (λ n. n + length (sent_on tree k lane e)) (length-drop (cond (takes tree e.firing e.outs k lane) 1 0) xs) in
    ((λ taken. let it = flow.0 taken in some_there xs it.message it.first), subst (λ n. IsFed tree k lane n es) size (flow-fed tree k lane es left ys flow.1))
  where
    some_there : (ms : List Message) (m : Message) → slice_get ms 0 ≡ Some m → 0 < length ms
    some_there [] m at = cc
    some_there (x ∷ ms) m at = omega arith
