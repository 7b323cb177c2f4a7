-- The entries of a history have numbers, and their transactions forms.
use Rattle.std.proofs.Common.{◌≡◌, ◌≢◌, ℕ, ◌+◌, ◌<◌, ◌≤◌, Bool, true, false, cond, not, ◌&&◌, List, [], ◌∷◌, ◌++◌, drop, refl, sym, ap, ◌∙◌, subst, arith, Option, Some, ⊎_elim}
use Rattle.std.specs.Prelude.{◌==◌, slice_get, option_map, option_and_then, slice_set}
use Rattle.std.proofs.str.Laws.{order}
use Rattle.std.proofs.lemmas.Bool.{eqb-true}
use Rattle.std.proofs.lemmas.List.{append-nil}
use Rattle.hem_base.specs.declared.ids.Firing.{Firing}
use Rattle.hem_syntax.specs.Protocol.{Protocol}
use Rattle.hem_template.specs.Template.{row_of}
use Rattle.hem_template.specs.declared.row.Taking.TheVariants.{FromKids}
use Rattle.hem_tree.specs.Tree.{Tree, IsTree}
use Rattle.hem_system.specs.declared.lane.Lane.{Lane}
use Rattle.hem_system.specs.declared.lane.Lane.TheVariants.{UpResponses, Requests}
use Rattle.hem_system.specs.State.{State, Line, LineStep, Step, Effect, takes, reaches, fire, run, step_of, line_step_of, line_after, place_of_me}
use Rattle.hem_trace.specs.Blocks.{Each}
use Rattle.hem_system.specs.Events.{Event, event_of as event_by}
use Rattle.hem_trace.specs.History.{Channel, events, takes_from}
use Rattle.hem_trace.specs.Tags.{Tags, tags_after, number_at, numbers_by_tags}
use Rattle.hem_trace.specs.Order.{Entry, entries_from}
use Rattle.hem_law.specs.Normal.{AreNumbered}
use Rattle.hem_rows.proofs.Choices.{if_some, both}
use Rattle.hem_rows.specs.Rows.{IsTaking, AllHaveTemplates}
use Rattle.hem_rows.specs.Acts.{takes_kids}
use Rattle.hem_locks.proofs.States.{IsMade, made}
use Rattle.hem_shape.specs.Progress.{set_at}
use Rattle.hem_shape.proofs.Spots.{same_or_other, set_here, set_there, true_false}
use Rattle.hem_numbered.specs.Numbers.{Numbers}
use Rattle.hem_numbered.specs.Firings.{HasNumber}
use Rattle.hem_numbered.specs.Histories.{tags_of, AreKnown}
use Rattle.hem_numbered.proofs.Awaited.{some_taken}
use Rattle.hem_numbered.proofs.LineSteps.{FiringOf, firing_of}
use Rattle.hem_numbered.proofs.Numbering.{has_number}
use Rattle.hem_numbered.proofs.Histories.{entry_by, IsStep, known_step}

-- the step of a firing that is made
step_is : (p : Protocol) (tree : Tree) (s mid : State) (f : Firing) (it : IsMade p tree s f mid) → step_of p tree s f ≡ Some (record { effect = it.effect; next = mid })
step_is p tree s mid f it =
    ap (λ line. option_and_then (λ line. option_map (λ (step : LineStep). let made : Step = record { effect = step.effect; next = slice_set s f.line.0 step.next } in made) (line_step_of p tree line f)) line) it.there
    ∙ ap (λ e. option_map (λ (step : LineStep). let made : Step = record { effect = step.effect; next = slice_set s f.line.0 step.next } in made) (option_map (λ e. let made : LineStep = record { effect = e; next = line_after tree f e it.line } in made) e)) it.possible
    ∙ ap (λ s. let made : Option Step = Some (record { effect = it.effect; next = s }) in made) it.after

pub events_step : (p : Protocol) (tree : Tree) (s mid : State) (f : Firing) (h : List Firing) (it : IsMade p tree s f mid) → events p tree s (f ∷ h) ≡ event_by f it.effect ∷ events p tree mid h
events_step p tree s mid f h it = rw (step_is p tree s mid f it, events) refl

-- the numbers in all lists after an event
pub tags_now : (tree : Tree) (all : ℕ → Numbers) (now : Numbers) (e : Event) (n : ℕ) → ((k : ℕ) (lane : Lane) → now.lists k lane ≡ drop (cond (takes tree e.firing e.outs k lane) 1 0) ((all e.firing.line.0).lists k lane) ++ cond (reaches tree e.firing e.outs.to k lane) (n ∷ []) []) → tags_after tree (tags_of all) e n ≡ tags_of (set_at e.firing.line.0 now all)
tags_now tree all now e n lists = λ i c. each c i
  where
    append_none : (ns : List ℕ) → ns ++ [] ≡ ns
    append_none [] = refl
    append_none (m ∷ ns) = ap (λ ns. m ∷ ns) (append_none ns)

    each : (c : Channel) → tags_after tree (tags_of all) e n c ≡ (set_at e.firing.line.0 now all c.line).lists c.object c.lane
    each c =
        ⊎_elim
        (λ same.
        ap (λ b. drop (cond (b && takes tree e.firing e.outs c.object c.lane) 1 0) ((all c.line).lists c.object c.lane) ++ cond (b && reaches tree e.firing e.outs.to c.object c.lane) (n ∷ []) []) (let is : (e.firing.line.0 == c.line) ≡ true = grind arith in is)
        ∙ ap (λ l. drop (cond (takes tree e.firing e.outs c.object c.lane) 1 0) ((all l).lists c.object c.lane) ++ cond (reaches tree e.firing e.outs.to c.object c.lane) (n ∷ []) []) same
        ∙ sym (lists c.object c.lane)
        ∙ sym (ap (λ (numbers : Numbers). numbers.lists c.object c.lane) (set_here e.firing.line.0 now all c.line same)))
        (λ other.
        ap (λ b. drop (cond (b && takes tree e.firing e.outs c.object c.lane) 1 0) ((all c.line).lists c.object c.lane) ++ cond (b && reaches tree e.firing e.outs.to c.object c.lane) (n ∷ []) []) (let is : (e.firing.line.0 == c.line) ≡ false = grind arith in is)
        ∙ append_none ((all c.line).lists c.object c.lane)
        ∙ sym (ap (λ (numbers : Numbers). numbers.lists c.object c.lane) (set_there e.firing.line.0 now all c.line other)))
        (same_or_other c.line e.firing.line.0)

-- each event's place has the event's line as its owner
abbrev pub OwnerFits : (ℕ → ℕ) → ℕ → List Event → Type 0
OwnerFits owner place [] = Unit {0}
OwnerFits owner place (e ∷ es) = (owner place ≡ e.firing.line.0) × OwnerFits owner (place + 1) es

-- the entries of events, numbered by the tags
abbrev pub numbered_from : Protocol → Tree → ℕ → Tags → List Event → List Entry
numbered_from p tree place tags es = entries_from p tree place es (numbers_by_tags tree tags place es)

-- what a history shows from a place on
pub record IsWalked (p : Protocol) (tree : Tree) (owner : ℕ → ℕ) (new : State) (past xs : List Entry) (tags : Tags) : Type 0 where
  pub numbered : AreNumbered tree tags xs
  pub lines : Each (λ x. owner x.number ≡ x.event.firing.line.0) xs
  pub least : Each (λ x. x.number ≤ x.place) xs
  pub all : ℕ → Numbers
  pub is_new : ℕ → Bool
  pub known : AreKnown p tree owner new all is_new (past ++ xs)

pub append_one : (past : List Entry) (x : Entry) (xs : List Entry) → (past ++ x ∷ []) ++ xs ≡ past ++ x ∷ xs
append_one [] x xs = refl
append_one (y ∷ past) x xs = ap (λ l. y ∷ l) (append_one past x xs)

-- one event more
walk_on : (p : Protocol) (tree : Tree) (owner : ℕ → ℕ) (line : Line) (mid new : State) (all : ℕ → Numbers) (is_new : ℕ → Bool) (past : List Entry) (f : Firing) (e : Effect) (place n : ℕ) (es : List Event) → IsStep p tree owner line mid all is_new past f e place n (λ y. y == place) → ((step : IsStep p tree owner line mid all is_new past f e place n (λ y. y == place)) → n ≤ place → IsWalked p tree owner new (past ++ entry_by p tree place n f e ∷ []) (numbered_from p tree (place + 1) (tags_of (set_at f.line.0 step.now all)) es) (tags_of (set_at f.line.0 step.now all))) → n ≤ place → n ≡ number_at tree (tags_of all) place (event_by f e) → IsWalked p tree owner new past (numbered_from p tree place (tags_of all) (event_by f e ∷ es)) (tags_of all)
walk_on p tree owner line mid new all is_new past f e place n es step rest early is =
    subst (λ m. IsWalked p tree owner new past (entry_by p tree place m f e ∷ numbered_from p tree (place + 1) (tags_after tree (tags_of all) (event_by f e) m) es) (tags_of all)) is
    (let tags = tags_now tree all step.now (event_by f e) n step.lists in
    let walked = rest step early in
    let made : IsWalked p tree owner new past (entry_by p tree place n f e ∷ numbered_from p tree (place + 1) (tags_after tree (tags_of all) (event_by f e) n) es) (tags_of all) =
    subst (λ t. IsWalked p tree owner new past (entry_by p tree place n f e ∷ numbered_from p tree (place + 1) t es) (tags_of all)) (sym tags)
    (let it : IsWalked p tree owner new past (entry_by p tree place n f e ∷ numbered_from p tree (place + 1) (tags_of (set_at f.line.0 step.now all)) es) (tags_of all) = record {
      numbered = ((λ c other takes. on_line c other takes), subst (λ t. AreNumbered tree t (numbered_from p tree (place + 1) (tags_of (set_at f.line.0 step.now all)) es)) (sym tags) walked.numbered);
      lines = (step.own_line, walked.lines);
      least = (early, walked.least);
      all = walked.all;
      is_new = walked.is_new;
      known = subst (λ l. AreKnown p tree owner new walked.all walked.is_new l) (append_one past (entry_by p tree place n f e) (numbered_from p tree (place + 1) (tags_of (set_at f.line.0 step.now all)) es)) walked.known;
    } in it) in
    made)
  where
    on_line : (c : Channel) → c.lane ≢ Requests → takes_from tree c (event_by f e) ≡ true → slice_get (tags_of all c) 0 ≡ Some n
    on_line c other is =
        let parts = both (f.line.0 == c.line) (takes tree f e.outs c.object c.lane) is in
        ap (λ l. slice_get ((all l).lists c.object c.lane) 0) (sym (eqb-true f.line.0 c.line parts.0)) ∙ step.takes c.object c.lane other parts.1

-- the number of an event of a history
pub event_number : (p : Protocol) (tree : Tree) (owner : ℕ → ℕ) (s mid : State) (all : ℕ → Numbers) (is_new : ℕ → Bool) (past : List Entry) (f : Firing) (place : ℕ) → IsTree tree → AllHaveTemplates p → (it : IsMade p tree s f mid) → AreKnown p tree owner s all is_new past → HasNumber tree f it.effect.outs (all f.line.0).lists (λ y. y == place) (number_at tree (tags_of all) place (event_by f it.effect))
event_number p tree owner s mid all is_new past f place lawful templates it known =
    let of = firing_of p tree it.line f it.effect lawful templates (known.locks.line f.line.0 it.line it.there) it.possible in
    let acts = of.is.acts in
    has_number p tree (event_by f it.effect) it.line of.before (tags_of all) place (row_of of.t).taking (λ y. y == place) acts.taken_request acts.taken_parent acts.taken_kids acts.there of.is.own
    (known.numbers f.line.0 it.line it.there).lists
    (λ kids. some_kid of kids)
    (let same : (place == place) ≡ true = grind arith in same)
  where
    some_kid : (of : FiringOf p tree it.line f it.effect) → (row_of of.t).taking ≡ FromKids → (k : ℕ) × (takes tree f it.effect.outs k UpResponses ≡ true)
    some_kid of kids =
        let take_kids = subst (λ taking. IsTaking p taking of.rule.take) kids of.is.row.taking in
        let taken = of.is.acts.taken_kids ∙ ap (λ taking. takes_kids taking of.before) kids in
        some_taken p tree f of.kind of.rule (place_of_me tree f.object.0 f.me) of.before it.effect.after it.effect.outs it.line take_kids.0 of.is.fires take_kids.1 taken

pub walk : (p : Protocol) (tree : Tree) (owner : ℕ → ℕ) (h : List Firing) (s new : State) (all : ℕ → Numbers) (is_new : ℕ → Bool) (past : List Entry) (place : ℕ) → IsTree tree → AllHaveTemplates p → AreKnown p tree owner s all is_new past → run p tree s h ≡ Some new → ((y : ℕ) → place ≤ y → is_new y ≡ true) → OwnerFits owner place (events p tree s h) → IsWalked p tree owner new past (numbered_from p tree place (tags_of all) (events p tree s h)) (tags_of all)
walk p tree owner [] s new all is_new past place lawful templates known runs late fits =
    let same : s ≡ new = (let ends : Some s ≡ Some new = runs in cc) in
    record {
      numbered = tt;
      lines = tt;
      least = tt;
      all = all;
      is_new = is_new;
      known = subst (λ l. AreKnown p tree owner new all is_new l) (sym (append-nil past)) (subst (λ s. AreKnown p tree owner s all is_new past) same known);
    }
walk p tree owner (f ∷ h) s new all is_new past place lawful templates known runs late fits =
    let first = if_some (λ next. run p tree next h) (fire p tree s f) new runs in
    let mid = first.0 in
    let it = made p tree s mid f first.1 in
    let es = events_step p tree s mid f h it in
    let here = subst (λ es. OwnerFits owner place es) es fits in
    let n = number_at tree (tags_of all) place (event_by f it.effect) in
    let number = event_number p tree owner s mid all is_new past f place lawful templates it known in
    let step = known_step p tree owner s mid all is_new past f place n (λ y. y == place) lawful templates first.1 it known number
    (λ y is. let same : y ≡ place = eqb-true y place is in (late y (omega arith), ap owner same ∙ here.0)) in
    let early : n ≤ place = ⊎_elim (λ is. let same : n ≡ place = eqb-true n place is in omega arith) (λ used. ⊎_elim (λ less. absurd (true_false (late n (omega arith)) used)) (λ le. le) (order place n)) step.begins in
    subst (λ es. IsWalked p tree owner new past (numbered_from p tree place (tags_of all) es) (tags_of all)) (sym es)
    (walk_on p tree owner it.line mid new all is_new past f it.effect place n (events p tree mid h) step
    (λ step early. walk p tree owner h mid new (set_at f.line.0 step.now all) (λ y. is_new y && not (y == n)) (past ++ entry_by p tree place n f it.effect ∷ []) (place + 1) lawful templates step.known first.2 (λ y later. still_new y n (is_new y) (late y (omega (arith, later))) (omega (arith, early, later))) here.1)
    early refl)
  where
    still_new : (y n : ℕ) (b : Bool) → b ≡ true → n < y → (b && not (y == n)) ≡ true
    still_new y n true is less = let other : (y == n) ≡ false = grind arith in ap not other
    still_new y n false is less = cc
