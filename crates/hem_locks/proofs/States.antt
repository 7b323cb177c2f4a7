-- The invariant of locks on whole states: at the start, and along a history.
use Rattle.std.proofs.Common.{◌≡◌, ◌≢◌, refl, ap, sym, ◌∙◌, subst, ℕ, Bool, true, false, List, [], ◌∷◌, length, arith, Option, Some, None, zero-add, inl, inr, ◌⊎◌}
use Rattle.std.specs.Prelude.{◌==◌, slice_get, slice_set, option_map, replicate}
use Rattle.std.specs.Option.{option_map_or}
use Rattle.std.proofs.lemmas.List.{length-replicate}
use Rattle.std.proofs.lemmas.Option.{slice_get_within, slice_get-map}
use Rattle.std.proofs.lemmas.Bool.Decides.{eqb_tells}
use Rattle.hem_base.specs.declared.ids.Status8.{Status8}
use Rattle.hem_base.specs.declared.ids.Kind.{Kind}
use Rattle.hem_base.specs.declared.ids.Kind.TheVariants.{Root, Mid, Leaf}
use Rattle.hem_base.specs.declared.ids.Message.{Message}
use Rattle.hem_base.specs.declared.ids.Firing.{Firing}
use Rattle.hem_syntax.specs.Protocol.{Protocol}
use Rattle.hem_object.specs.Local.{Local}
use Rattle.hem_syntax.specs.Lawful.{IsProtocol, has_status, counts_of}
use Rattle.hem_object.specs.Start.{first_local}
use Rattle.hem_tree.specs.Tree.{Tree, Node, IsTree, below, kind_of, children_of, place_among}
use Rattle.hem_work.specs.Work.{Work, requests_of}
use Rattle.hem_system.specs.State.{Cell, Line, State, LineStep, Step, Effect, effect_of, line_after, line_step_of, step_of, fire, run, Runs, first_cell, first_line, start}
use Rattle.hem_system.proofs.Sets.{get_set_here, get_set_other}
use Rattle.hem_rows.specs.Rows.{AllHaveTemplates}
use Rattle.hem_locks.specs.Edges.{EdgeHolds, CellsHold, EdgesHold, ObjectHolds, ObjectsHold, LocksHold, AllLocksHold}
use Rattle.hem_rows.proofs.Choices.{if_some, if_mapped}
use Rattle.hem_system.proofs.Own.{slice_get-map_each}
use Rattle.hem_locks.proofs.Places.{within}
use Rattle.hem_locks.proofs.Acted.{acted}
use Rattle.hem_locks.proofs.Lines.{edges_kept}
use Rattle.hem_locks.proofs.Objects.{length-after, length-map_each, objects_kept}

-- a firing keeps the invariant on its line
pub line_kept : (p : Protocol) (tree : Tree) (line : Line) (f : Firing) (e : Effect) → IsTree tree → AllHaveTemplates p → effect_of p tree line f ≡ Some e → LocksHold p tree line → LocksHold p tree (line_after tree f e line)
line_kept p tree line f e lawful templates possible holds =
    let it = acted p tree line f e templates possible in
    record {
      size = length-after tree f e line ∙ holds.size;
      edges = edges_kept p tree line f e lawful it holds.edges;
      objects = objects_kept p tree line f e lawful it holds.objects;
    }

-- a firing in a state is made on its line
pub record IsMade (p : Protocol) (tree : Tree) (old : State) (f : Firing) (new : State) : Type 0 where
  pub line : Line
  pub effect : Effect
  pub there : slice_get old f.line.0 ≡ Some line
  pub possible : effect_of p tree line f ≡ Some effect
  pub after : slice_set old f.line.0 (line_after tree f effect line) ≡ new

-- from the step on the line to the state
led : (old : State) (l : ℕ) (made on : LineStep) (step : Step) (new : State) → made ≡ on → (let s : Step = record { effect = on.effect; next = slice_set old l on.next } in s) ≡ step → step.next ≡ new → slice_set old l made.next ≡ new
led old l made on step new is on_line after = ap (λ (s : LineStep). slice_set old l s.next) is ∙ ap (λ (s : Step). s.next) on_line ∙ after

pub made : (p : Protocol) (tree : Tree) (old new : State) (f : Firing) → fire p tree old f ≡ Some new → IsMade p tree old f new
made p tree old new f leads =
    let by_step = if_mapped (λ (step : Step). step.next) (step_of p tree old f) new leads in
    let by_line = if_some _ (slice_get old f.line.0) by_step.0 by_step.1 in
    let line = by_line.0 in
    let by_lines = if_mapped {B = Step} (λ (step : LineStep). record { effect = step.effect; next = slice_set old f.line.0 step.next }) (line_step_of p tree line f) by_step.0 by_line.2 in
    let by_effect = if_mapped {B = LineStep} (λ e. record { effect = e; next = line_after tree f e line }) (effect_of p tree line f) by_lines.0 by_lines.1 in
    record {
      line = line;
      effect = by_effect.0;
      there = by_line.1;
      possible = by_effect.1;
      after = led old f.line.0 (record { effect = by_effect.0; next = line_after tree f by_effect.0 line }) by_lines.0 by_step.0 new by_effect.2 by_lines.2 by_step.2;
    }

-- it keeps the invariant on each line
pub fires-keeps : (p : Protocol) (tree : Tree) (old new : State) (f : Firing) → IsTree tree → AllHaveTemplates p → fire p tree old f ≡ Some new → AllLocksHold p tree old → AllLocksHold p tree new
fires-keeps p tree old new f lawful templates leads holds =
    let it = made p tree old new f leads in
    let next = line_after tree f it.effect it.line in
    record { line = λ l line at. by_line l line (eqb_tells l f.line.0) it next (ap (λ (s : State). slice_get s l) it.after ∙ at) }
  where
    by_line : (l : ℕ) (line : Line) → ((l == f.line.0) ≡ true) × (l ≡ f.line.0) ⊎ ((l == f.line.0) ≡ false) × (l ≢ f.line.0) → (it : IsMade p tree old f new) (next : Line) → slice_get (slice_set old f.line.0 (line_after tree f it.effect it.line)) l ≡ Some line → LocksHold p tree line
    by_line l line (inl own) it next at =
        let here = get_set_here old f.line.0 (line_after tree f it.effect it.line) (slice_get_within old f.line.0 it.line it.there) in
        let both : Some (line_after tree f it.effect it.line) ≡ Some line = sym here ∙ ap (slice_get (slice_set old f.line.0 (line_after tree f it.effect it.line))) (sym own.1) ∙ at in
        let same : line_after tree f it.effect it.line ≡ line = cc in
        subst (λ (x : Line). LocksHold p tree x) same (line_kept p tree it.line f it.effect lawful templates it.possible (holds.line f.line.0 it.line it.there))
    by_line l line (inr other) it next at = holds.line l line (sym (get_set_other old f.line.0 l (line_after tree f it.effect it.line) other.1) ∙ at)

-- so does a history
run-keeps : (p : Protocol) (tree : Tree) (h : List Firing) (old new : State) → IsTree tree → AllHaveTemplates p → run p tree old h ≡ Some new → AllLocksHold p tree old → AllLocksHold p tree new
run-keeps p tree [] old new lawful templates leads holds = let same : old ≡ new = cc in subst (λ (s : State). AllLocksHold p tree s) same holds
run-keeps p tree (f ∷ h) old new lawful templates leads holds =
    let first = if_some (λ next. run p tree next h) (fire p tree old f) new leads in
    run-keeps p tree h first.0 new lawful templates first.2 (fires-keeps p tree old first.0 f lawful templates first.1 holds)

pub runs-keep : (p : Protocol) (tree : Tree) (old new : State) (h : List Firing) → IsTree tree → AllHaveTemplates p → Runs p tree old h new → AllLocksHold p tree old → AllLocksHold p tree new
runs-keep p tree old new h lawful templates runs holds = run-keeps p tree h old new lawful templates runs.leads holds

-- at the start nothing is held and nothing is under way
first-holds : (p : Protocol) (c : ℕ) (high low : Local) → high.up ≡ None → high.down ≡ None → low.up ≡ None → low.down ≡ None → EdgeHolds p c high low [] [] []
first-holds p c high low up_high down_high up_low down_low =
    record {
      uplock = rw (up_high, down_high, up_low) refl;
      downlock = rw (down_low, down_high) refl;
      order = refl;
      single = rw (up_low, down_low) (omega arith);
      spared = rw down_high (omega arith);
    }

-- the node of an object at the start
node_of : (p : Protocol) (tree : Tree) (requests : ℕ → List Message) (k : ℕ) (cell : Cell) → slice_get (first_line p tree requests) k ≡ Some cell → (node : Node) × (slice_get tree k ≡ Some node) × (first_cell p tree requests k node ≡ cell)
node_of p tree requests k cell at = if_mapped (first_cell p tree requests k) (slice_get tree k) cell (sym (rw zero-add at (slice_get-map_each (first_cell p tree requests) 0 tree k)) ∙ at)

first-edges : (p : Protocol) (tree : Tree) (requests : ℕ → List Message) → EdgesHold p tree (first_line p tree requests)
first-edges p tree requests =
    record {
      edge = λ k high upper lower parent at_high at.
          let up = node_of p tree requests high upper at_high in
          let low = node_of p tree requests k lower at in
          subst (λ (x : Cell). CellsHold p (place_among tree high k) x lower) up.2
          (subst (λ (x : Cell). CellsHold p (place_among tree high k) (first_cell p tree requests high up.0) x) low.2
          (first-holds p (place_among tree high k) (first_cell p tree requests high up.0).local (first_cell p tree requests k low.0).local refl refl refl refl));
    }

-- a directory at the start has an entry for each child
entries : (d : Option Status8) (n : ℕ) (test : Status8 → Bool) → option_map_or test d false ≡ true → length (option_map_or (λ s. replicate n s) d []) ≡ n
entries None n test some = cc
entries (Some s) n test some = length-replicate n s

entries_of : (p : Protocol) (tree : Tree) → IsProtocol p → IsTree tree → (k : ℕ) (kind : Kind) → kind_of tree k ≡ Some kind → length (first_local p kind (length (children_of tree k))).dir ≡ length (children_of tree k)
entries_of p tree protocol lawful k Root kind = entries p.root.dir (length (children_of tree k)) (has_status (counts_of p p.root)) protocol.root_dir
entries_of p tree protocol lawful k Mid kind = entries p.mid.dir (length (children_of tree k)) (has_status (counts_of p p.mid)) protocol.mid_dir
entries_of p tree protocol lawful k Leaf kind =
    let none : children_of tree k ≡ [] = (lawful.leaves k (within tree k Leaf kind)).0 kind in
    ap (λ (d : Option Status8). length (option_map_or (λ s. replicate (length (children_of tree k)) s) d [])) protocol.leaf_dir ∙ sym (ap length none)

first-objects : (p : Protocol) (tree : Tree) (requests : ℕ → List Message) → IsProtocol p → IsTree tree → ObjectsHold tree (first_line p tree requests)
first-objects p tree requests protocol lawful =
    record {
      object = λ k cell at.
          let node = node_of p tree requests k cell at in
          subst (λ (x : Cell). ObjectHolds tree k x) node.2 (record {
            children = entries_of p tree protocol lawful k node.0.kind (ap (option_map (λ (n : Node). n.kind)) node.1);
            awaits = λ lock is. absurd cc;
            top = λ none. record { uplock = refl; downlock = refl; up_requests = refl; up_responses = refl; down = refl };
          });
    }

first-size : (p : Protocol) (tree : Tree) (requests : ℕ → List Message) → length (first_line p tree requests) ≡ length tree
first-size p tree requests = length-map_each (first_cell p tree requests) 0 tree

pub start-holds : (p : Protocol) (tree : Tree) (work : Work) → IsProtocol p → IsTree tree → AllLocksHold p tree (start p tree work)
start-holds p tree work protocol lawful =
    record {
      line = λ l line at.
          let it = if_mapped (λ l. first_line p tree (requests_of work l)) (slice_get (below work.lines) l) line (sym (slice_get-map (λ l. first_line p tree (requests_of work l)) (below work.lines) l) ∙ at) in
          let requests = requests_of work it.0 in
          subst (λ (x : Line). LocksHold p tree x) it.2 (record { size = first-size p tree requests; edges = first-edges p tree requests; objects = first-objects p tree requests protocol lawful });
    }

-- so the invariant holds in each state that a history reaches
pub reached-holds : (p : Protocol) (tree : Tree) (work : Work) (h : List Firing) (s : State) → IsProtocol p → IsTree tree → AllHaveTemplates p → Runs p tree (start p tree work) h s → AllLocksHold p tree s
reached-holds p tree work h s protocol lawful templates runs = runs-keep p tree (start p tree work) s h lawful templates runs (start-holds p tree work protocol lawful)
