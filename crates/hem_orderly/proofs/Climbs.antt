-- From a request on its way up to its transaction's anchor: each firing that takes it sends it on, and the anchor takes it.
use Rattle.std.proofs.Common.{◌≡◌, ◌≢◌, ℕ, ◌+◌, ◌<◌, ◌≤◌, Bool, true, false, cond, not, ◌&&◌, List, [], ◌∷◌, ◌++◌, refl, sym, ap, ◌∙◌, subst, arith, Some, inl, inr, ◌⊎◌}
use Rattle.std.specs.Prelude.{◌==◌, slice_get, option_map, option_and_then, Ok}
use Rattle.std.proofs.lemmas.Bool.{eq-eqb}
use Rattle.std.proofs.lemmas.Option.{slice_get_within}
use Rattle.hem_base.specs.declared.ids.Firing.{Firing}
use Rattle.hem_template.specs.declared.template_name.TemplateName.TheVariants.{RqUp}
use Rattle.hem_syntax.specs.Protocol.{Protocol}
use Rattle.hem_tree.specs.Tree.{Tree}
use Rattle.hem_system.specs.State.{State, Line, LineStep, Effect, effect_of, line_after, run_line}
use Rattle.hem_system.proofs.Changed.{not_same}
use Rattle.hem_system.proofs.Sets.{get_set_here, get_set_other}
use Rattle.hem_trace.specs.Blocks.{Each}
use Rattle.hem_trace.specs.Order.{Entry}
use Rattle.hem_law.specs.Lists.{IsPairwise}
use Rattle.hem_law.specs.Lines.{line_firings}
use Rattle.hem_law.specs.Printed.{firings_in}
use Rattle.hem_trace.specs.Templates.{template_at}
use Rattle.hem_law.proofs.ListFacts.{each-map}
use Rattle.hem_locks.specs.Allowed.{HasTemplate}
use Rattle.hem_locks.proofs.States.{IsMade}
use Rattle.hem_windows.specs.Pending.{takes_of, top_after, SendsOn}
use Rattle.hem_shape.specs.Progress.{set_at}
use Rattle.hem_shape.specs.Shape.{is_asking_up}
use Rattle.hem_shape.proofs.Spots.{same_or_other, set_here, set_there, not_false}
use Rattle.hem_numbered.specs.Numbers.{Numbers, progress_of}
use Rattle.hem_numbered.proofs.Histories.{entry_by, upward_is}
use Rattle.hem_numbered.proofs.LineSteps.{FiringOf}
use Rattle.hem_numbered.proofs.OnlyUp.{rising_from}
use Rattle.hem_orderly.specs.Anchors.{IsIn}
use Rattle.hem_orderly.specs.Climbs.{IsTemplated, Climbs, IsUnderWay}
use Rattle.hem_orderly.proofs.Anchors.{each_in}
use Rattle.hem_orderly.proofs.Steps.{IsAt, entries_on, Next, next}
use Rattle.hem_orderly.proofs.Rising.{own_takes, only_own_takes, asks_next}

-- the template of a firing
pub template_is : (p : Protocol) (tree : Tree) (line : Line) (f : Firing) (e : Effect) → (of : FiringOf p tree line f e) → template_at p tree f ≡ Some of.t
template_is p tree line f e of = let is = of.is in let kind = is.kind_is in let named = of.named in let has = of.template in rw (kind, named, has) refl

-- the line of a firing after it
pub line_now : (p : Protocol) (tree : Tree) (s mid : State) (f : Firing) (it : IsMade p tree s f mid) → slice_get mid f.line.0 ≡ Some (line_after tree f it.effect it.line)
line_now p tree s mid f it = ap (λ s. slice_get s f.line.0) (sym it.after) ∙ get_set_here s f.line.0 (line_after tree f it.effect it.line) (slice_get_within s f.line.0 it.line it.there)

-- and another line
other_line : (p : Protocol) (tree : Tree) (s mid : State) (f : Firing) (it : IsMade p tree s f mid) (l : ℕ) → l ≢ f.line.0 → slice_get mid l ≡ slice_get s l
other_line p tree s mid f it l other = ap (λ s. slice_get s l) (sym it.after) ∙ get_set_other s f.line.0 l (line_after tree f it.effect it.line) other

-- the anchor itself
at_anchor : (p : Protocol) (tree : Tree) (l a top : ℕ) (line : Line) (y : Entry) (rest : List Entry) (e : Effect) → y.place ≡ a → Each (λ z. y.place < z.place) rest → effect_of p tree line y.event.firing ≡ Some e → takes_of top y.event.firing ≡ true → Climbs p tree l a top line (y ∷ rest)
at_anchor p tree l a top line y rest e here rising possible taken =
    record {
      before = [];
      anchor = y;
      later = rest;
      parts = refl;
      early = tt;
      late = (omega (arith, here), each-map (λ z. y.place < z.place) (λ z. a ≤ z.place) rest (λ z less. omega (arith, here, less)) rising);
      templated = tt;
      sends = tt;
      new = line;
      runs = refl;
      effect = e;
      possible = possible;
      taken = taken;
    }

-- one firing more, on another line
on_other : (p : Protocol) (tree : Tree) (l a top : ℕ) (line : Line) (y : Entry) (rest : List Entry) → y.event.firing.line.0 ≢ l → y.place < a → IsTemplated p tree y → Climbs p tree l a top line rest → Climbs p tree l a top line (y ∷ rest)
on_other p tree l a top line y rest other less templated it =
    let h = line_firings l (firings_in it.before) in
    let off : (y.event.firing.line.0 == l) ≡ false = not_same y.event.firing.line.0 l other in
    let same : line_firings l (firings_in (y ∷ it.before)) ≡ h = ap (λ b. cond b (y.event.firing ∷ h) h) off in
    record {
      before = y ∷ it.before;
      anchor = it.anchor;
      later = it.later;
      parts = ap (λ xs. y ∷ xs) it.parts;
      early = (less, it.early);
      late = it.late;
      templated = (templated, it.templated);
      sends = subst (λ h. SendsOn p tree top h) (sym same) it.sends;
      new = it.new;
      runs = ap (λ h. run_line p tree line h) same ∙ it.runs;
      effect = it.effect;
      possible = it.possible;
      taken = ap (λ h. takes_of (top_after top h) it.anchor.event.firing) same ∙ it.taken;
    }

-- a run of one firing more
run_one : (p : Protocol) (tree : Tree) (line : Line) (f : Firing) (e : Effect) (h : List Firing) → effect_of p tree line f ≡ Some e → run_line p tree line (f ∷ h) ≡ run_line p tree (line_after tree f e line) h
run_one p tree line f e h possible =
    ap (λ e. option_and_then (λ (step : LineStep). run_line p tree step.next h) (option_map (λ e. let made : LineStep = record { effect = e; next = line_after tree f e line } in made) e)) possible

-- one firing more, on this line
on_own : (p : Protocol) (tree : Tree) (l a top : ℕ) (line : Line) (y : Entry) (rest : List Entry) (e : Effect) → y.event.firing.line.0 ≡ l → y.place < a → IsTemplated p tree y → effect_of p tree line y.event.firing ≡ Some e → (takes_of top y.event.firing ≡ true → HasTemplate p tree y.event.firing RqUp) → Climbs p tree l a (cond (takes_of top y.event.firing) y.event.firing.object.0 top) (line_after tree y.event.firing e line) rest → Climbs p tree l a top line (y ∷ rest)
on_own p tree l a top line y rest e own less templated possible sends it =
    let h = line_firings l (firings_in it.before) in
    let f = y.event.firing in
    let on : (f.line.0 == l) ≡ true = eq-eqb f.line.0 l own in
    let same : line_firings l (firings_in (y ∷ it.before)) ≡ f ∷ h = ap (λ b. cond b (f ∷ h) h) on in
    record {
      before = y ∷ it.before;
      anchor = it.anchor;
      later = it.later;
      parts = ap (λ xs. y ∷ xs) it.parts;
      early = (less, it.early);
      late = it.late;
      templated = (templated, it.templated);
      sends = subst (λ h. SendsOn p tree top h) (sym same) (sends, it.sends);
      new = it.new;
      runs = ap (λ h. run_line p tree line h) same ∙ run_one p tree line f e h possible ∙ it.runs;
      effect = it.effect;
      possible = it.possible;
      taken = ap (λ h. takes_of (top_after top h) it.anchor.event.firing) same ∙ it.taken;
    }

-- the request of a transaction on its way to the anchor
pub climbs : (p : Protocol) (tree : Tree) (owner : ℕ → ℕ) (h : List Firing) (s new : State) (all : ℕ → Numbers) (is_new : ℕ → Bool) (past : List Entry) (place l a x top : ℕ) (line : Line) → IsAt p tree owner h s new all is_new past place → slice_get s l ≡ Some line → owner x ≡ l → (progress_of p tree line (all l) x).asks_up top ≡ true → IsUnderWay a x (entries_on p tree h s all place) → Climbs p tree l a top line (entries_on p tree h s all place)
climbs p tree owner [] s new all is_new past place l a x top line at there owned asks under = absurd under.among
climbs p tree owner (f ∷ h) s new all is_new past place l a x top line at there owned asks under =
    let it = next p tree owner f h s new all is_new past place at in
    subst (λ xs. Climbs p tree l a top line xs) (sym it.entries)
    (one it (subst (λ xs. IsUnderWay a x xs) it.entries under)
    (λ line' top' there' asks' under'. climbs p tree owner h it.mid new (set_at f.line.0 it.step.now all) (λ y. is_new y && not (y == it.n)) (past ++ entry_by p tree place it.n f it.it.effect ∷ []) (place + 1) l a x top' line' it.rest there' owned asks' under'))
  where
    one : (it : Next p tree owner f h s new all is_new past place)
        → IsUnderWay a x (entry_by p tree place it.n f it.it.effect ∷ entries_on p tree h it.mid (set_at f.line.0 it.step.now all) (place + 1))
        → ((line' : Line) (top' : ℕ) → slice_get it.mid l ≡ Some line' → (progress_of p tree line' (set_at f.line.0 it.step.now all l) x).asks_up top' ≡ true → IsUnderWay a x (entries_on p tree h it.mid (set_at f.line.0 it.step.now all) (place + 1)) → Climbs p tree l a top' line' (entries_on p tree h it.mid (set_at f.line.0 it.step.now all) (place + 1)))
        → Climbs p tree l a top line (entry_by p tree place it.n f it.it.effect ∷ entries_on p tree h it.mid (set_at f.line.0 it.step.now all) (place + 1))
    one it under go = by_place under.among
      where
        y : Entry
        y = entry_by p tree place it.n f it.it.effect

        rest : List Entry
        rest = entries_on p tree h it.mid (set_at f.line.0 it.step.now all) (place + 1)

        rising : Each (λ z. y.place < z.place) rest
        rising = (subst (λ xs. IsPairwise (λ s t. s.place < t.place) xs) it.entries (rising_from p tree place _ _)).0

        templated : IsTemplated p tree y
        templated = (it.step.of.t, template_is p tree it.it.line f it.it.effect it.step.of)

        line_is : f.line.0 ≡ l → it.it.line ≡ line
        line_is own = (let both : Some it.it.line ≡ Some line = sym it.it.there ∙ ap (slice_get s) own ∙ there in cc)

        possible : f.line.0 ≡ l → effect_of p tree line f ≡ Some it.it.effect
        possible own = ap (λ line. effect_of p tree line f) (sym (line_is own)) ∙ it.it.possible

        asks_here : f.line.0 ≡ l → (progress_of p tree it.it.line (all f.line.0) x).asks_up top ≡ true
        asks_here own = ap (λ line. (progress_of p tree line (all f.line.0) x).asks_up top) (line_is own) ∙ ap (λ l. (progress_of p tree line (all l) x).asks_up top) own ∙ asks

        takes : f.line.0 ≡ l → it.n ≡ x → (takes_of top f ≡ true) × (is_asking_up it.step.of.t ≡ true → it.step.of.t ≡ RqUp)
        takes own same = own_takes p tree owner s it.mid all is_new (λ y. y == place) past it.it.line f it.it.effect place it.n top at.known it.it.there it.step (ap (λ n. (progress_of p tree it.it.line (all f.line.0) n).asks_up top) same ∙ asks_here own)

        asks_up : y.upward ≡ true → is_asking_up it.step.of.t ≡ true
        asks_up up = sym (upward_is p tree f it.step.of.kind it.step.of.rule it.step.of.t it.step.of.is.kind_is it.step.of.named it.step.of.template) ∙ up

        under_rest : IsIn under.anchor rest → IsUnderWay a x rest
        under_rest among = record { only_up = under.only_up.1; anchor = under.anchor; among = among; number = under.number; place = under.place }

        by_line : IsIn under.anchor rest → y.place < a → (f.line.0 ≡ l) ⊎ (f.line.0 ≢ l) → Climbs p tree l a top line (y ∷ rest)
        by_line among less (inr other) =
            on_other p tree l a top line y rest other less templated
            (go line top (other_line p tree s it.mid f it.it l (λ same. other (sym same)) ∙ there)
            (ap (λ numbers. (progress_of p tree line numbers x).asks_up top) (set_there f.line.0 it.step.now all l (λ same. other (sym same))) ∙ asks)
            (under_rest among))
        by_line among less (inl own) =
            on_own p tree l a top line y rest it.it.effect own less templated (possible own) sends_on
            (go (line_after tree f it.it.effect line) (cond (takes_of top f) f.object.0 top)
            (ap (slice_get it.mid) (sym own) ∙ line_now p tree s it.mid f it.it ∙ ap (λ line. Some (line_after tree f it.it.effect line)) (line_is own))
            (ap (λ numbers. (progress_of p tree (line_after tree f it.it.effect line) numbers x).asks_up (cond (takes_of top f) f.object.0 top)) (set_here f.line.0 it.step.now all l (sym own))
            ∙ ap (λ line. (progress_of p tree (line_after tree f it.it.effect line) it.step.now x).asks_up (cond (takes_of top f) f.object.0 top)) (sym (line_is own))
            ∙ by_number (same_or_other it.n x))
            (under_rest among))
          where
            sends_on : takes_of top f ≡ true → HasTemplate p tree f RqUp
            sends_on taken =
                let same = only_own_takes p tree owner it.mid all is_new (λ y. y == place) past it.it.line f it.it.effect place it.n x top it.step (asks_here own) taken in
                let is = (takes own same).1 (asks_up (under.only_up.0 same less)) in
                record { kind = it.step.of.kind; rule = it.step.of.rule; kind_is = it.step.of.is.kind_is; named = it.step.of.named; template = it.step.of.template ∙ ap Ok is }

            by_number : (it.n ≡ x) ⊎ (it.n ≢ x) → (progress_of p tree (line_after tree f it.it.effect it.it.line) it.step.now x).asks_up (cond (takes_of top f) f.object.0 top) ≡ true
            by_number (inl same) =
                ap (λ b. (progress_of p tree (line_after tree f it.it.effect it.it.line) it.step.now x).asks_up (cond b f.object.0 top)) (takes own same).0
                ∙ ap (λ n. (progress_of p tree (line_after tree f it.it.effect it.it.line) it.step.now n).asks_up f.object.0) (sym same)
                ∙ asks_next p tree owner it.mid all is_new (λ y. y == place) past it.it.line f it.it.effect place it.n it.step (asks_up (under.only_up.0 same less))
            by_number (inr differs) =
                let none : takes_of top f ≡ false = not_false (takes_of top f) (λ taken. differs (only_own_takes p tree owner it.mid all is_new (λ y. y == place) past it.it.line f it.it.effect place it.n x top it.step (asks_here own) taken)) in
                ap (λ b. (progress_of p tree (line_after tree f it.it.effect it.it.line) it.step.now x).asks_up (cond b f.object.0 top)) none
                ∙ ap (λ at. at.asks_up top) (it.step.others x (λ same. differs (sym same)))
                ∙ asks_here own

        by_place : (under.anchor ≡ y) ⊎ IsIn under.anchor rest → Climbs p tree l a top line (y ∷ rest)
        by_place (inl same) =
            let number : it.n ≡ x = ap (λ (z : Entry). z.number) (sym same) ∙ under.number in
            let own : f.line.0 ≡ l = sym it.step.own_line ∙ ap owner number ∙ owned in
            at_anchor p tree l a top line y rest it.it.effect (ap (λ (z : Entry). z.place) (sym same) ∙ under.place) rising (possible own) (takes own number).0
        by_place (inr among) = by_line among (let less = each_in (λ z. y.place < z.place) rest under.anchor among rising in let at = under.place in omega (arith, less, at)) (same_or_other f.line.0 l)
