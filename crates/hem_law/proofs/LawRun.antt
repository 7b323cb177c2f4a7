-- The law: events that fit object by object and list by list run on the whole line.
use Rattle.std.proofs.Common.{◌≡◌, ◌≢◌, refl, ap, sym, ◌∙◌, subst, ℕ, true, false, cond, List, [], ◌∷◌, Option, Some, None, inl, inr, ◌⊎◌}
use Rattle.std.specs.Prelude.{◌==◌, option_map, option_and_then}
use Rattle.std.proofs.lemmas.Bool.{eq-eqb}
use Rattle.std.proofs.lemmas.Bool.Decides.{eqb_tells}
use Rattle.hem_system.specs.declared.lane.Lane.{Lane}
use Rattle.hem_syntax.specs.Protocol.{Protocol}
use Rattle.hem_tree.specs.Tree.{Tree}
use Rattle.hem_object.specs.Local.{Local}
use Rattle.hem_system.specs.State.{Line, Effect, LineStep, own_effect, local_at, effect_of, line_step_of, run_line, heads_of, line_after, list_at, takes, taken_heads}
use Rattle.hem_system.specs.Events.{Event}
use Rattle.hem_trace.specs.History.{line_events}
use Rattle.hem_law.specs.Chains.{own_events, firings, heads_seen, ChainStep, IsChain}
use Rattle.hem_law.specs.Flows.{IsFirst, IsFlow}
use Rattle.hem_law.specs.Leads.{Leads}
use Rattle.hem_system.proofs.TakenHeads.{own_effect-enough}
use Rattle.hem_law.proofs.OwnEffect.{own_effect-parts, own_effect-took}
use Rattle.hem_law.proofs.Children.{heads-met}
use Rattle.hem_law.proofs.LineParts.{length-map_each, list_at-after, local_at-after, line_same}
use Rattle.hem_rows.proofs.Choices.{not_same}

-- what an event does
abbrev pub effect_in : Event → Local → Effect
effect_in e next = record { after = next; took = e.took; outs = e.outs }

-- an event that is next at its object, and that finds what it takes, is made
pub step-there : (p : Protocol) (tree : Tree) (line : Line) (e : Event) (next : Local) → ChainStep p tree (local_at line e.firing.object.0) e next → ((k : ℕ) (lane : Lane) → takes tree e.firing e.outs k lane ≡ true → IsFirst tree k lane (list_at line k lane) e) → line_step_of p tree line e.firing ≡ Some (record { effect = effect_in e next; next = line_after tree e.firing (effect_in e next) line })
step-there p tree line e next step first =
    let parts = own_effect-parts p tree e.firing step.now (heads_seen tree e) (effect_in e next) step.fires in
    let met = heads-met tree line e parts.child (λ k lane t. let x = first k lane t in x.first ∙ sym x.seen) in
    let took : e.took ≡ taken_heads e.outs (heads_seen tree e) = own_effect-took p tree e.firing step.now (heads_seen tree e) (effect_in e next) step.fires in
    let possible = own_effect-enough p tree e.firing step.now (heads_seen tree e) (heads_of tree line e.firing.object.0 e.firing.me) (effect_in e next) step.fires (met ∙ sym took) in
    let effect : effect_of p tree line e.firing ≡ Some (effect_in e next) = ap (option_and_then (λ local. own_effect p tree e.firing local (heads_of tree line e.firing.object.0 e.firing.me))) step.here ∙ possible in
    ap (option_map {U = LineStep} (λ x. record { effect = x; next = line_after tree e.firing x line })) effect

-- the first of an object's events
pub own-first : (e : Event) (es : List Event) → own_events e.firing.object.0 (e ∷ es) ≡ e ∷ own_events e.firing.object.0 es
own-first e es = rw (eq-eqb e.firing.object.0 e.firing.object.0 refl) refl

-- the events of another object
pub own-other : (o : ℕ) (e : Event) (es : List Event) → e.firing.object.0 ≢ o → own_events o (e ∷ es) ≡ own_events o es
own-other o e es differ = rw (not_same e.firing.object.0 o differ) refl

-- after the first event the others lead on
pub leads-on : (p : Protocol) (tree : Tree) (old : Line) (e : Event) (es : List Event) (new : Line) (next : Local) → Leads p tree old (e ∷ es) new → ChainStep p tree (local_at old e.firing.object.0) e next → IsChain p tree (Some next) (own_events e.firing.object.0 es) (local_at new e.firing.object.0) → Leads p tree (line_after tree e.firing (effect_in e next) old) es new
leads-on p tree old e es new next leads step rest =
    let o = e.firing.object.0 in
    record {
      size = length-map_each _ 0 old ∙ leads.size;
      chains = λ k. chain k (eqb_tells k o);
      flows = λ k lane. subst (λ ms. IsFlow tree k lane ms es (list_at new k lane)) (sym (list_at-after tree old e.firing (effect_in e next) step.now k lane leads.size step.here)) (leads.flows k lane).1;
    }
  where
    after : (k : ℕ) → local_at (line_after tree e.firing (effect_in e next) old) k ≡ option_map (λ l. cond (k == e.firing.object.0) next l) (local_at old k)
    after k = local_at-after tree old e.firing (effect_in e next) k

    unchanged : (l : Option Local) → l ≡ option_map (λ l. cond false next l) l
    unchanged None = refl
    unchanged (Some l) = refl

    chain : (k : ℕ) → ((k == e.firing.object.0) ≡ true) × (k ≡ e.firing.object.0) ⊎ ((k == e.firing.object.0) ≡ false) × (k ≢ e.firing.object.0) → IsChain p tree (local_at (line_after tree e.firing (effect_in e next) old) k) (own_events k es) (local_at new k)
    chain k (inl same) =
        let now : local_at (line_after tree e.firing (effect_in e next) old) k ≡ Some next = after k ∙ ap (λ b. option_map (λ l. cond b next l) (local_at old k)) same.0 ∙ ap (option_map (λ l. next)) (ap (local_at old) same.1 ∙ step.here) in
        subst (λ l. IsChain p tree l (own_events k es) (local_at new k)) (sym now) (subst (λ i. IsChain p tree (Some next) (own_events i es) (local_at new i)) (sym same.1) rest)
    chain k (inr other) =
        let now : local_at (line_after tree e.firing (effect_in e next) old) k ≡ local_at old k = after k ∙ ap (λ b. option_map (λ l. cond b next l) (local_at old k)) other.0 ∙ sym (unchanged (local_at old k)) in
        subst (λ l. IsChain p tree l (own_events k es) (local_at new k)) (sym now) (subst (λ xs. IsChain p tree (local_at old k) xs (local_at new k)) (own-other k e es (λ same. other.1 (sym same))) (leads.chains k))

-- events that lead from one line to another run so
pub law-run : (p : Protocol) (tree : Tree) (old : Line) (es : List Event) (new : Line) → Leads p tree old es new → run_line p tree old (firings es) ≡ Some new
law-run p tree old [] new leads = ap Some (line_same old new leads.chains leads.flows)
law-run p tree old (e ∷ es) new leads =
    let mine = subst (λ xs. IsChain p tree (local_at old e.firing.object.0) xs (local_at new e.firing.object.0)) (own-first e es) (leads.chains e.firing.object.0) in
    let made = step-there p tree old e mine.0 mine.1 (λ k lane t. (leads.flows k lane).0 t) in
    rw made (law-run p tree (line_after tree e.firing (effect_in e mine.0) old) es new (leads-on p tree old e es new mine.0 leads mine.1 mine.2))

-- and these are its events
pub law-events : (p : Protocol) (tree : Tree) (old : Line) (es : List Event) (new : Line) → Leads p tree old es new → line_events p tree old (firings es) ≡ es
law-events p tree old [] new leads = refl
law-events p tree old (e ∷ es) new leads =
    let mine = subst (λ xs. IsChain p tree (local_at old e.firing.object.0) xs (local_at new e.firing.object.0)) (own-first e es) (leads.chains e.firing.object.0) in
    let made = step-there p tree old e mine.0 mine.1 (λ k lane t. (leads.flows k lane).0 t) in
    rw (made, line_events) (ap (λ rest. e ∷ rest) (law-events p tree (line_after tree e.firing (effect_in e mine.0) old) es new (leads-on p tree old e es new mine.0 leads mine.1 mine.2)))
