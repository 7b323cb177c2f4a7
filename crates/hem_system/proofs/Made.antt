-- A firing that is made on a line.
use Rattle.std.proofs.Common.{◌≡◌, ◌≢◌, ◌∙◌, refl, sym, ap, subst, ℕ, ◌<◌, arith, List, length, Some, None, Option, ⊎_elim}
use Rattle.std.specs.Prelude.{slice_get, slice_set, option_map, IsTrue}
use Rattle.std.specs.List.{list_all}
use Rattle.std.proofs.str.Laws.{order}
use Rattle.std.proofs.lemmas.List.{map-set}
use Rattle.std.proofs.lemmas.Option.{slice_get-map, slice_get_within}
use Rattle.hem_base.specs.declared.ids.Firing.{Firing}
use Rattle.hem_syntax.specs.declared.rule.Rule.{Rule}
use Rattle.hem_syntax.specs.Protocol.{Protocol}
use Rattle.hem_object.specs.Local.{Local}
use Rattle.hem_object.specs.Changes.{assign_names}
use Rattle.hem_fire.specs.declared.outs.To.{To}
use Rattle.hem_fire.specs.declared.outs.Outs.{Outs}
use Rattle.hem_fire.specs.declared.plan.Plan.{Plan}
use Rattle.hem_fire.specs.OneFire.{Heads}
use Rattle.hem_fire.specs.Plans.{left_by}
use Rattle.hem_tree.specs.Tree.{Tree}
use Rattle.hem_system.specs.declared.cell.Cell.{Cell as Kept}
use Rattle.hem_system.specs.State.{Cell, Line, Effect, map_each, local_at, reaches}
use Rattle.hem_system.specs.Cells.{seen, line_of}
use Rattle.hem_system.specs.Lists.{lists_after, HasRoom, HaveRoom}
use Rattle.hem_system.specs.Steps.{IsEnabled, IsFired, LineFires}
use Rattle.hem_system.proofs.Sets.{get_set_here, get_set_other}
use Rattle.hem_system.proofs.Changed.{line_changed}

-- an object that is there, by its local state
there_by_local : (cells : List Kept) (o : ℕ) (local : Local) (found : Option Kept) → slice_get cells o ≡ found → option_map (λ cell. cell.local) (option_map seen found) ≡ Some local → (cell : Kept) × (slice_get cells o ≡ Some cell) × (cell.local ≡ local)
there_by_local cells o local None is at = cc
there_by_local cells o local (Some cell) is at = let same : cell.local ≡ local = cc at in (cell, is, same)

-- an object with a local state on a line is kept
pub kept_there : (cells : List Kept) (o : ℕ) (local : Local) → local_at (line_of cells) o ≡ Some local → (cell : Kept) × (slice_get cells o ≡ Some cell) × (cell.local ≡ local)
kept_there cells o local at = there_by_local cells o local (slice_get cells o) refl (rw slice_get-map at at)

-- a firing that is possible is at an object that is there, on other cells that look alike too
pub enabled_within : {p : Protocol} {tree : Tree} {f : Firing} {rule : Rule} {plan : Plan} {took : Heads} (line : Line) (cells : List Kept) → line_of cells ≡ line → IsEnabled p tree line f rule plan took → f.object.0 < length cells
enabled_within {f = f} line cells alike enabled =
    let it = kept_there cells f.object.0 enabled.local (ap (λ (l : Line). local_at l f.object.0) alike ∙ enabled.there) in
    slice_get_within cells f.object.0 it.0 it.1

-- and all that its sets name exists there
pub enabled_names : {p : Protocol} {tree : Tree} {f : Firing} {rule : Rule} {plan : Plan} {took : Heads} (line : Line) (cells : List Kept) → line_of cells ≡ line → IsEnabled p tree line f rule plan took → (cell : Kept) → slice_get cells f.object.0 ≡ Some cell → IsTrue (list_all (assign_names cell.local plan.view) rule.sets)
enabled_names {f = f} {rule = rule} {plan = plan} line cells alike enabled cell at =
    let here : local_at (line_of cells) f.object.0 ≡ Some cell.local = rw (slice_get-map seen cells f.object.0, at) refl in
    let both : Some cell.local ≡ Some enabled.local = sym here ∙ ap (λ (l : Line). local_at l f.object.0) alike ∙ enabled.there in
    let same : cell.local ≡ enabled.local = cc in
    rw same enabled.names

-- a local state that is set leaves the room of all lists
pub fired_room : {rule : Rule} {plan : Plan} (tree : Tree) (f : Firing) (to : To) (o : ℕ) (old new : List Kept) → IsFired rule plan o old new → HaveRoom tree f to old → HaveRoom tree f to new
fired_room {rule = rule} {plan = plan} tree f to o old new fired room k cell at =
    let next : Kept = record fired.cell { local = left_by plan rule fired.cell.local } in
    let read : slice_get (slice_set old o next) k ≡ Some cell = sym (ap (λ (xs : List Kept). slice_get xs k) fired.after) ∙ at in
    let elsewhere : (k ≢ o) → HasRoom (reaches tree f to k) cell = λ other. room k cell (sym (get_set_other old o k next other) ∙ read) in
    let here : (k ≡ o) → HasRoom (reaches tree f to k) cell =
    λ same.
    let within = slice_get_within old o fired.cell fired.there in
    let both : Some next ≡ Some cell = sym (ap (slice_get (slice_set old o next)) same ∙ get_set_here old o next within) ∙ read in
    let is : next ≡ cell = cc in
    let before : HasRoom (reaches tree f to k) fired.cell = room k fired.cell (ap (slice_get old) same ∙ fired.there) in
    let after : HasRoom (reaches tree f to k) next = record { up_requests = before.up_requests; up_responses = before.up_responses; down = before.down; requests = before.requests; answers = before.answers } in
    subst (λ (c : Kept). HasRoom (reaches tree f to k) c) is after
    in
    ⊎_elim (λ less. elsewhere (omega arith)) (λ le. ⊎_elim (λ more. elsewhere (omega arith)) (λ same. here (omega arith)) (order o k)) (order k o)

-- a firing that was made
pub fired_line : {p : Protocol} {tree : Tree} {f : Firing} {rule : Rule} {plan : Plan} {took : Heads} (old roomy fired new : List Kept) (outs : Outs)
    → IsEnabled p tree (line_of old) f rule plan took
    → outs ≡ plan.outs
    → line_of roomy ≡ line_of old
    → IsFired rule plan f.object.0 roomy fired
    → line_of new ≡ map_each (lists_after tree f outs) 0 (line_of fired)
    → LineFires p tree (line_of old) f (record { firing = f; took = took; outs = outs }) (line_of new)
fired_line {p = p} {tree = tree} {f = f} {rule = rule} {plan = plan} {took = took} old roomy fired new outs enabled gives alike made changed =
    let o = f.object.0 in
    let cell = seen made.cell in
    let on_roomy : slice_get (line_of roomy) o ≡ Some cell = rw (slice_get-map seen roomy o, made.there) refl in
    let on_old : slice_get (line_of old) o ≡ Some cell = ap (λ (l : Line). slice_get l o) (sym alike) ∙ on_roomy in
    let both : Some cell.local ≡ Some enabled.local = sym (ap (option_map (λ (c : Cell). c.local)) on_old) ∙ enabled.there in
    let same : enabled.local ≡ made.cell.local = cc in
    let after = left_by plan rule made.cell.local in
    let e : Effect = record { after = after; took = took; outs = outs } in
    let set : line_of fired ≡ slice_set (line_of old) o (record cell { local = after }) =
    ap line_of made.after ∙ map-set seen roomy o (record made.cell { local = after }) ∙ ap (λ (l : Line). slice_set l o (record cell { local = after })) alike
    in
    record {
      effect = e;
      possible = enabled.effect ∙ (λ i. let x : Effect = record { after = left_by plan rule (same i); took = took; outs = sym gives i } in Some x);
      event_is = refl;
      leads = changed ∙ ap (map_each (lists_after tree f outs) 0) set ∙ line_changed tree f e (line_of old) cell on_old;
    }
