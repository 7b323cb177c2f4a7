-- A firing that is made on one of several lines.
use Rattle.std.proofs.Common.{◌≡◌, ◌∙◌, refl, sym, ap, ℕ, ◌≤◌, List, length, Some, None, Option, OnOk, OnErr, IfOk, Result, Ok, Err}
use Rattle.std.specs.Prelude.{slice_get, slice_set, option_map, ◌↔◌}
use Rattle.std.proofs.lemmas.List.{map-set}
use Rattle.std.proofs.lemmas.Option.{slice_get-map, slice_get_past}
use Rattle.hem_system.proofs.Sets.{map-set_alike}
use Rattle.hem_base.specs.declared.ids.Firing.{Firing}
use Rattle.hem_syntax.specs.Protocol.{Protocol}
use Rattle.hem_tree.specs.Tree.{Tree}
use Rattle.hem_system.specs.declared.fault.StepFault.{StepFault}
use Rattle.hem_system.specs.declared.fault.StepFault.TheVariants.{NotEnabled}
use Rattle.hem_system.specs.declared.cell.Cell.{Cell as Kept}
use Rattle.hem_system.specs.State.{Line, State, Effect, LineStep, Step, effect_of, line_after, fire, Fires}
use Rattle.hem_system.specs.Events.{Event, event_of, event_in}
use Rattle.hem_system.specs.Cells.{line_of, state_of}
use Rattle.hem_system.specs.Steps.{LineFires, IsStepped}

-- a line that is kept, as it is seen
line_there : (lines : List (List Kept)) (l : ℕ) (cells : List Kept) → slice_get lines l ≡ Some cells → slice_get (state_of lines) l ≡ Some (line_of cells)
line_there lines l cells at = rw (slice_get-map line_of lines l, at) refl

-- a firing on a line that is not there
pub no_line : (p : Protocol) (tree : Tree) (lines : List (List Kept)) (f : Firing) → length lines ≤ f.line.0 → fire p tree (state_of lines) f ≡ None
no_line p tree lines f past =
    let none : slice_get (state_of lines) f.line.0 ≡ None = rw (slice_get-map line_of lines f.line.0, slice_get_past lines f.line.0 past) refl in
    rw none refl

-- a firing on a line, by its effect
pub fire_by : (p : Protocol) (tree : Tree) (s : State) (f : Firing) (line : Line) (effect : Option Effect) → slice_get s f.line.0 ≡ Some line → effect_of p tree line f ≡ effect
    → fire p tree s f ≡ option_map (λ (step : Step). step.next) (option_map {U = Step} (λ (step : LineStep). record { effect = step.effect; next = slice_set s f.line.0 step.next }) (option_map {U = LineStep} (λ e. record { effect = e; next = line_after tree f e line }) effect))
fire_by p tree s f line effect at is = rw (at, is) refl

-- a firing that has no effect on its line
pub none_fires : (p : Protocol) (tree : Tree) (lines : List (List Kept)) (f : Firing) (cells : List Kept) → slice_get lines f.line.0 ≡ Some cells → effect_of p tree (line_of cells) f ≡ None → fire p tree (state_of lines) f ≡ None
none_fires p tree lines f cells at none = fire_by p tree (state_of lines) f (line_of cells) None (line_there lines f.line.0 cells at) none

-- a firing that is not possible has no effect on its line
if_none : (p : Protocol) (tree : Tree) (s : State) (f : Firing) (line : Line) (effect : Option Effect) → slice_get s f.line.0 ≡ Some line → effect_of p tree line f ≡ effect → fire p tree s f ≡ None → effect ≡ None
if_none p tree s f line None at is none = refl
if_none p tree s f line (Some e) at is none = let it = sym (fire_by p tree s f line (Some e) at is) ∙ none in cc

pub fires_none : (p : Protocol) (tree : Tree) (lines : List (List Kept)) (f : Firing) (cells : List Kept) → slice_get lines f.line.0 ≡ Some cells → fire p tree (state_of lines) f ≡ None → effect_of p tree (line_of cells) f ≡ None
fires_none p tree lines f cells at none = if_none p tree (state_of lines) f (line_of cells) (effect_of p tree (line_of cells) f) (line_there lines f.line.0 cells at) refl none

-- a firing that was made on a line leads to the state with that line, and its event is that of the line
pub record Fired (p : Protocol) (tree : Tree) (old : State) (f : Firing) (event : Event) (new : State) : Type 0 where
  pub fires : Fires p tree old f new
  pub event_is : event_in p tree old f ≡ Some event

event_by : (p : Protocol) (tree : Tree) (s : State) (f : Firing) (line : Line) (effect : Option Effect) → slice_get s f.line.0 ≡ Some line → effect_of p tree line f ≡ effect
    → event_in p tree s f ≡ option_map (λ (step : Step). event_of f step.effect) (option_map {U = Step} (λ (step : LineStep). record { effect = step.effect; next = slice_set s f.line.0 step.next }) (option_map {U = LineStep} (λ e. record { effect = e; next = line_after tree f e line }) effect))
event_by p tree s f line effect at is = rw (at, is) refl

some_fires : (p : Protocol) (tree : Tree) (old new : List (List Kept)) (f : Firing) (event : Event) (cells next : List Kept) → slice_get old f.line.0 ≡ Some cells → new ≡ slice_set old f.line.0 next → LineFires p tree (line_of cells) f event (line_of next) → Fired p tree (state_of old) f event (state_of new)
some_fires p tree old new f event cells next at after fires =
    let there = line_there old f.line.0 cells at in
    let leads = fire_by p tree (state_of old) f (line_of cells) (Some fires.effect) there fires.possible in
    let state : state_of new ≡ slice_set (state_of old) f.line.0 (line_of next) = ap state_of after ∙ map-set line_of old f.line.0 next in
    record {
      fires = record { leads = leads ∙ ap Some (sym (state ∙ ap (slice_set (state_of old) f.line.0) fires.leads)) };
      event_is = event_by p tree (state_of old) f (line_of cells) (Some fires.effect) there fires.possible ∙ ap Some (sym fires.event_is);
    }

made_ok : (r : Result Event StepFault) {P : Type 0} {Q : Event → Type 0} → ((event : Event) → Q event → P) → IfOk r Q → OnOk r P
made_ok (Ok event) f h = f event h
made_ok (Err e) f h = h

made_event : (r : Result Event StepFault) {P Q : Event → Type 0} → ((event : Event) → Q event → P event) → IfOk r Q → IfOk r P
made_event (Ok event) f h = f event h
made_event (Err e) f h = h

on_err : (r : Result Event StepFault) {P Q : Type 0} → (P → Q) → OnErr r P → OnErr r Q
on_err (Ok event) f h = h
on_err (Err e) f h = f h

-- where a firing was made on its line, it leads to the state now
pub stepped-ok : {p : Protocol} {tree : Tree} {f : Firing} {old new : List (List Kept)} {r : Result Event StepFault} → IsStepped p tree f f.line.0 old new r → OnOk r (Fires p tree (state_of old) f (state_of new))
stepped-ok {p = p} {tree = tree} {f = f} {old = old} {new = new} {r = r} it = made_ok r (λ event fires. (some_fires p tree old new f event it.cells it.next it.there it.after fires).fires) it.ok

-- and what is told is its event
pub stepped-event : {p : Protocol} {tree : Tree} {f : Firing} {old new : List (List Kept)} {r : Result Event StepFault} → IsStepped p tree f f.line.0 old new r → IfOk r (λ event. event_in p tree (state_of old) f ≡ Some event)
stepped-event {p = p} {tree = tree} {f = f} {old = old} {new = new} {r = r} it = made_event r (λ event fires. (some_fires p tree old new f event it.cells it.next it.there it.after fires).event_is) it.ok

-- it is refused exactly where it is not possible
pub stepped-refused : {p : Protocol} {tree : Tree} {f : Firing} {old new : List (List Kept)} {r : Result Event StepFault} → IsStepped p tree f f.line.0 old new r → (r ≡ Err NotEnabled) ↔ (fire p tree (state_of old) f ≡ None)
stepped-refused {p = p} {tree = tree} {f = f} {old = old} it =
    (λ refused. none_fires p tree old f it.cells it.there (it.refused.0 refused), λ none. it.refused.1 (fires_none p tree old f it.cells it.there none))

-- where it was not made, nothing changed
pub stepped-err : {p : Protocol} {tree : Tree} {f : Firing} {old new : List (List Kept)} {r : Result Event StepFault} → IsStepped p tree f f.line.0 old new r → OnErr r (state_of new ≡ state_of old)
stepped-err {f = f} {old = old} {r = r} it = on_err r (λ same. ap state_of it.after ∙ map-set_alike line_of old f.line.0 it.cells it.next it.there same) it.err
