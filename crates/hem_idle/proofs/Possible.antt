-- A firing that is possible in the state that a crew holds is possible at its object with what its worker has of the line.
use Rattle.std.proofs.Common.{◌≡◌, refl, ap, sym, ◌∙◌, subst, ℕ, arith, true, List, [], map, Option, Some, None, inl, inr}
use Rattle.std.specs.Prelude.{slice_get, option_map}
use Rattle.std.specs.Option.{option_map_or}
use Rattle.std.proofs.lemmas.Option.{slice_get-map}
use Rattle.hem_base.specs.declared.ids.ObjectId.{ObjectId}
use Rattle.hem_base.specs.declared.ids.Message.{Message}
use Rattle.hem_base.specs.declared.ids.Carried.{Carried}
use Rattle.hem_base.specs.declared.ids.Firing.{Firing}
use Rattle.hem_syntax.specs.Protocol.{Protocol}
use Rattle.hem_object.specs.Local.{Local}
use Rattle.hem_tree.specs.Tree.{Tree, IsTree, is_child, parent_of, children_of}
use Rattle.hem_tree.proofs.Lawful.{get_within}
use Rattle.hem_system.specs.declared.lane.Lane.{Lane}
use Rattle.hem_system.specs.declared.lane.Lane.TheVariants.{UpRequests, UpResponses, Down, Requests}
use Rattle.hem_system.specs.State.{Cell, Line, State, Effect, list_of, list_at, head_at, request_head, heads_of, local_at, is_own_child, own_effect, effect_of, fire}
use Rattle.hem_system.proofs.Takers.{parent_is}
use Rattle.hem_system.proofs.Kids.{at_child}
use Rattle.hem_rows.proofs.Choices.{if_some, if_mapped}
use Rattle.hem_locks.proofs.States.{made}
use Rattle.hem_locks.proofs.Still.{child_within}
use Rattle.hem_law.specs.Printed.{IsFresh}
use Rattle.hem_law.proofs.AllLines.{same_elements}
use Rattle.hem_law.proofs.OwnEffect.{own_effect-parts}
use Rattle.hem_parts.specs.Parts.{messages_of}
use Rattle.hem_parts.specs.Steps.{first_message, first_request, heads_from}
use Rattle.hem_ends.specs.Edges.{KnowEachOther}
use Rattle.hem_turns.specs.OnLine.{OnLine, asked}
use Rattle.hem_worker.specs.LineParts.{known_by}
use Rattle.hem_worker.specs.Workers.{Worker}
use Rattle.hem_worker.specs.Hindered.{effect_there}
use Rattle.hem_crew.specs.Crew.{line_of, IsCrew}
use Rattle.hem_crew.specs.Knowing.{OnEdges}
use Rattle.hem_crew.specs.Held.{waiting_in, held_cell, held}
use Rattle.hem_crew.proofs.PartAt.{IsThere, there-or-not}
use Rattle.hem_crew.proofs.Tied.{held_line, each-at}
use Rattle.hem_idle.proofs.Waits.{requests-known, responses-known, down-known}

-- a firing that is possible there: its line at the start, its object's cell, what the object's worker has of the line, and its effect
pub record IsPossible (p : Protocol) (tree : Tree) (begun : State) (k : ℕ) (crew : List Worker) (f : Firing) : Type 0 where
  pub line : Line
  pub line_there : slice_get begun f.line.0 ≡ Some line
  pub effect : Effect
  pub on_line : effect_of p tree (held_line tree crew f.line.0 line) f ≡ Some effect
  pub at : IsThere p tree k f.line.0 f.object.0 line crew
  pub there : effect_there p tree at.now f ≡ Some effect

-- a cell that is there, as the crew holds it
pub cell-held : (tree : Tree) (crew : List Worker) (l : ℕ) (line : Line) (o : ℕ) (cell : Cell) → slice_get line o ≡ Some cell → slice_get (held_line tree crew l line) o ≡ Some (held_cell tree crew l o cell)
cell-held tree crew l line o cell at = each-at (held_cell tree crew l) line o ∙ ap (option_map (held_cell tree crew l o)) at

head-message : (cs : List Carried) → slice_get (messages_of cs) 0 ≡ first_message cs
head-message cs = slice_get-map (λ (c : Carried). c.message) cs 0

module _ (p : Protocol) (tree : Tree) (begun : State) (k slots : ℕ) (crew : List Worker) (law : IsTree tree) (fresh : IsFresh tree begun) (is : IsCrew p tree begun k slots crew) (knows : OnEdges tree crew KnowEachOther) where
  module _ (l o : ℕ) (line : Line) (line_there : slice_get begun l ≡ Some line) (it : IsThere p tree k l o line crew) where
    -- the list of a cell that is there
    list-there : (i : ℕ) (lane : Lane) (cell : Cell) → slice_get line i ≡ Some cell → list_at (held_line tree crew l line) i lane ≡ list_of (held_cell tree crew l i cell) lane
    list-there i lane cell at = ap (λ found. option_map_or (λ (cell : Cell). list_of cell lane) found []) (cell-held tree crew l line i cell at)

    child-there : (low : ℕ) → parent_of tree low ≡ Some o → (cell : Cell) × (slice_get line low ≡ Some cell)
    child-there low parent = let inside = child_within tree low o parent in let size = fresh.sized l line line_there in get_within line low (omega (arith, inside, size))

    request-same : (me : Option ObjectId) → is_own_child tree o me ≡ true → request_head (held_line tree crew l line) o me ≡ first_request (asked it.now) (known_by tree o it.now.ends) me
    request-same None own =
        ap (λ (ms : List Message). slice_get ms 0) (list-there o Requests it.cell it.old)
        ∙ ap (λ found. slice_get (option_map_or asked found []) 0) it.new
    request-same (Some child) own =
        let parent = parent_is tree child.0 o own in
        let cell = child-there child.0 parent in
        ap (λ (ms : List Message). slice_get ms 0) (list-there child.0 UpRequests cell.0 cell.1)
        ∙ head-message (waiting_in tree crew l child.0 UpRequests)
        ∙ ap first_message (sym (requests-known p tree begun k slots crew law is knows l o it.now it.new child.0 parent))

    parent-same : head_at (held_line tree crew l line) o Down ≡ first_message (known_by tree o it.now.ends o Down)
    parent-same =
        ap (λ (ms : List Message). slice_get ms 0) (list-there o Down it.cell it.old)
        ∙ head-message (waiting_in tree crew l o Down)
        ∙ ap first_message (sym (down-known p tree begun k slots crew law is knows l o it.now it.new))

    kids-same : map (λ k. head_at (held_line tree crew l line) k UpResponses) (children_of tree o) ≡ map (λ k. first_message (known_by tree o it.now.ends k UpResponses)) (children_of tree o)
    kids-same = same_elements _ _ (λ i. by_child i (slice_get (children_of tree o) i) refl)
      where
        seen : ℕ → Option Message
        seen k = head_at (held_line tree crew l line) k UpResponses

        known : ℕ → Option Message
        known k = first_message (known_by tree o it.now.ends k UpResponses)

        one : (low : ℕ) → is_child tree low o ≡ true → seen low ≡ known low
        one low own =
            let parent = parent_is tree low o own in
            let cell = child-there low parent in
            ap (λ (ms : List Message). slice_get ms 0) (list-there low UpResponses cell.0 cell.1)
            ∙ head-message (waiting_in tree crew l low UpResponses)
            ∙ ap first_message (sym (responses-known p tree begun k slots crew law is knows l o it.now it.new low parent))

        by_child : (i : ℕ) (child : Option ℕ) → slice_get (children_of tree o) i ≡ child → slice_get (map seen (children_of tree o)) i ≡ slice_get (map known (children_of tree o)) i
        by_child i None at = slice_get-map seen (children_of tree o) i ∙ ap (option_map seen) at ∙ sym (slice_get-map known (children_of tree o) i ∙ ap (option_map known) at)
        by_child i (Some low) at =
            let own = (at_child tree o i low at).0 in
            slice_get-map seen (children_of tree o) i ∙ ap (option_map seen) at ∙ ap Some (one low own) ∙ sym (slice_get-map known (children_of tree o) i ∙ ap (option_map known) at)

    -- the heads of the lists from which an object takes are those of what its ends know
    pub heads-known : (me : Option ObjectId) → is_own_child tree o me ≡ true → heads_of tree (held_line tree crew l line) o me ≡ heads_from tree (asked it.now) (known_by tree o it.now.ends) o me
    heads-known me own = λ i. record { request = request-same me own i; parent = parent-same i; kids = kids-same i }

  -- the object that fires
  at-object : (f : Firing) (line : Line) (e : Effect) → slice_get begun f.line.0 ≡ Some line → effect_of p tree (held_line tree crew f.line.0 line) f ≡ Some e → IsPossible p tree begun k crew f
  at-object f line e line_there on_line =
      elim (there-or-not p tree begun k slots crew is f.line.0 f.object.0 line line_there (fresh.sized f.line.0 line line_there)) [
        | inl it ↦ there it
        | inr none ↦ absurd (nowhere none.old)
      ]
    where
      by_local : (local : Local) × (local_at (held_line tree crew f.line.0 line) f.object.0 ≡ Some local) × (own_effect p tree f local (heads_of tree (held_line tree crew f.line.0 line) f.object.0 f.me) ≡ Some e)
      by_local = if_some (λ local. own_effect p tree f local (heads_of tree (held_line tree crew f.line.0 line) f.object.0 f.me)) (local_at (held_line tree crew f.line.0 line) f.object.0) e on_line

      nowhere : slice_get line f.object.0 ≡ None → ⊥
      nowhere none =
          let gone : slice_get (held_line tree crew f.line.0 line) f.object.0 ≡ None = each-at (held_cell tree crew f.line.0) line f.object.0 ∙ ap (option_map (held_cell tree crew f.line.0 f.object.0)) none in
          let clash : None ≡ Some by_local.0 = sym (ap (option_map (λ (cell : Cell). cell.local)) gone) ∙ by_local.1 in
          cc

      there : IsThere p tree k f.line.0 f.object.0 line crew → IsPossible p tree begun k crew f
      there it =
          let local : by_local.0 ≡ it.now.local = (
          let here : Some (option_map_or (λ (now : OnLine). now.local) (line_of crew f.line.0 f.object.0) it.cell.local) ≡ Some by_local.0 = sym (ap (option_map (λ (cell : Cell). cell.local)) (cell-held tree crew f.line.0 line f.object.0 it.cell it.old)) ∙ by_local.1 in
          let same : option_map_or (λ (now : OnLine). now.local) (line_of crew f.line.0 f.object.0) it.cell.local ≡ by_local.0 = cc in
          sym same ∙ ap (λ found. option_map_or (λ (now : OnLine). now.local) found it.cell.local) it.new) in
          let own = (own_effect-parts p tree f by_local.0 (heads_of tree (held_line tree crew f.line.0 line) f.object.0 f.me) e by_local.2).child in
          record {
            line = line;
            line_there = line_there;
            effect = e;
            on_line = on_line;
            at = it;
            there = ap (own_effect p tree f it.now.local) (sym (heads-known f.line.0 f.object.0 line line_there it f.me own)) ∙ ap (λ local. own_effect p tree f local (heads_of tree (held_line tree crew f.line.0 line) f.object.0 f.me)) (sym local) ∙ by_local.2;
          }

  pub possible : (f : Firing) (next : State) → fire p tree (held tree crew begun) f ≡ Some next → IsPossible p tree begun k crew f
  possible f next leads =
      let it = made p tree (held tree crew begun) next f leads in
      let line = if_mapped (held_line tree crew f.line.0) (slice_get begun f.line.0) it.line (sym (each-at (held_line tree crew) begun f.line.0) ∙ it.there) in
      at-object f line.0 it.effect line.1 (subst (λ (line : Line). effect_of p tree line f ≡ Some it.effect) (sym line.2) it.possible)
