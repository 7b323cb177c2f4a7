-- The parts of a crew are tied, and lead from its start to the state that it holds.
use Rattle.std.proofs.Common.{◌≡◌, ◌≢◌, refl, ap, sym, ◌∙◌, subst, ℕ, ◌+◌, arith, List, [], ◌∷◌, ◌++◌, map, length, drop, Option, Some, None, ◌⊎◌, inl, inr}
use Rattle.std.specs.Prelude.{slice_get, option_map, option_and_then}
use Rattle.std.specs.Option.{option_map_or}
use Rattle.std.proofs.lemmas.List.{drop_at, drop_all}
use Rattle.hem_syntax.specs.Protocol.{Protocol}
use Rattle.hem_tree.specs.Tree.{Tree, Node, IsTree, parent_of}
use Rattle.hem_system.specs.declared.lane.Lane.{Lane}
use Rattle.hem_system.specs.declared.lane.Lane.TheVariants.{UpRequests, UpResponses, Down, Requests, Answers}
use Rattle.hem_system.specs.State.{Cell, Line, State, map_each, list_of, local_at, list_at, taker_of, sender_of}
use Rattle.hem_system.proofs.Own.{slice_get-map_each}
use Rattle.hem_law.specs.Printed.{IsFresh}
use Rattle.hem_law.proofs.LineParts.{length-map_each}
use Rattle.hem_parts.specs.Parts.{messages_of}
use Rattle.hem_parts.specs.Tied.{IsPart, sent_over, received_over, IsCarried, AreLineParts, AreTied}
use Rattle.hem_parts.proofs.AllRun.{none-too}
use Rattle.hem_turns.specs.OnLine.{OnLine, asked}
use Rattle.hem_worker.specs.Workers.{Worker}
use Rattle.hem_worker.specs.LineParts.{received_by, sent_by}
use Rattle.hem_crew.specs.Crew.{line_of, IsCrew}
use Rattle.hem_crew.specs.Knowing.{KnowAll, OnEdges}
use Rattle.hem_crew.specs.Held.{sent_to, received_from, waiting_in, held_cell, held}
use Rattle.hem_crew.proofs.PartAt.{IsThere, IsNowhere, there-or-not, no-line, HasParts, parts_of}
use Rattle.hem_crew.proofs.Edges.{flows}

-- an element after a change of each
pub each-at : {A B : Type 0} (g : ℕ → A → B) (xs : List A) (i : ℕ) → slice_get (map_each g 0 xs) i ≡ option_map (g i) (slice_get xs i)
each-at g xs i = let place : 0 + i ≡ i = omega arith in slice_get-map_each g 0 xs i ∙ ap (λ n. option_map (g n) (slice_get xs i)) place

-- a line as a crew holds it
abbrev pub held_line : Tree → List Worker → ℕ → Line → Line
held_line tree crew l line = map_each (held_cell tree crew l) 0 line

pub line-held : (tree : Tree) (crew : List Worker) (begun : State) (l : ℕ) (line end : Line) → slice_get begun l ≡ Some line → slice_get (held tree crew begun) l ≡ Some end → held_line tree crew l line ≡ end
line-held tree crew begun l line end at there =
    let is : Some (held_line tree crew l line) ≡ Some end = sym (each-at (held_line tree crew) begun l ∙ ap (option_map (held_line tree crew l)) at) ∙ there in
    cc

-- what stands on it, and what doesn't
cell-held : (p : Protocol) (tree : Tree) (k l o : ℕ) (line : Line) (crew : List Worker) → (it : IsThere p tree k l o line crew) → slice_get (held_line tree crew l line) o ≡ Some (held_cell tree crew l o it.cell)
cell-held p tree k l o line crew it = each-at (held_cell tree crew l) line o ∙ ap (option_map (held_cell tree crew l o)) it.old

none-held : (tree : Tree) (l o : ℕ) (line : Line) (crew : List Worker) → IsNowhere l o line crew → slice_get (held_line tree crew l line) o ≡ None
none-held tree l o line crew none = each-at (held_cell tree crew l) line o ∙ ap (option_map (held_cell tree crew l o)) none.old

list-held : (p : Protocol) (tree : Tree) (k l o : ℕ) (line : Line) (crew : List Worker) (lane : Lane) → (it : IsThere p tree k l o line crew) → list_at (held_line tree crew l line) o lane ≡ list_of (held_cell tree crew l o it.cell) lane
list-held p tree k l o line crew lane it = ap (λ found. option_map_or (λ (cell : Cell). list_of cell lane) found []) (cell-held p tree k l o line crew it)

no-list : (tree : Tree) (l o : ℕ) (line : Line) (crew : List Worker) (lane : Lane) → IsNowhere l o line crew → list_at (held_line tree crew l line) o lane ≡ []
no-list tree l o line crew lane none = ap (λ found. option_map_or (λ (cell : Cell). list_of cell lane) found []) (none-held tree l o line crew none)

-- the local state and the requests that a crew holds
local-held : (p : Protocol) (tree : Tree) (k l o : ℕ) (line : Line) (crew : List Worker) → IsThere p tree k l o line crew ⊎ IsNowhere l o line crew → option_map (λ (now : OnLine). now.local) (line_of crew l o) ≡ local_at (held_line tree crew l line) o
local-held p tree k l o line crew (inl it) =
    ap (option_map (λ (now : OnLine). now.local)) it.new
    ∙ sym (ap (option_map (λ (cell : Cell). cell.local)) (cell-held p tree k l o line crew it) ∙ ap (λ found. Some (option_map_or (λ (now : OnLine). now.local) found it.cell.local)) it.new)
local-held p tree k l o line crew (inr none) = ap (option_map (λ (now : OnLine). now.local)) none.new ∙ sym (ap (option_map (λ (cell : Cell). cell.local)) (none-held tree l o line crew none))

asked-held : (p : Protocol) (tree : Tree) (k l o : ℕ) (line : Line) (crew : List Worker) → IsThere p tree k l o line crew ⊎ IsNowhere l o line crew → option_map_or asked (line_of crew l o) [] ≡ list_at (held_line tree crew l line) o Requests
asked-held p tree k l o line crew (inl it) = sym (list-held p tree k l o line crew Requests it)
asked-held p tree k l o line crew (inr none) = ap (λ found. option_map_or asked found []) none.new ∙ sym (no-list tree l o line crew Requests none)

answers-held : (p : Protocol) (tree : Tree) (k l o : ℕ) (line : Line) (crew : List Worker) → IsThere p tree k l o line crew ⊎ IsNowhere l o line crew → option_map_or (λ (now : OnLine). now.answers) (line_of crew l o) [] ≡ list_at (held_line tree crew l line) o Answers
answers-held p tree k l o line crew (inl it) = sym (list-held p tree k l o line crew Answers it)
answers-held p tree k l o line crew (inr none) = ap (λ found. option_map_or (λ (now : OnLine). now.answers) found []) none.new ∙ sym (no-list tree l o line crew Answers none)

-- the messages that it holds
waiting-cell : (tree : Tree) (crew : List Worker) (l o : ℕ) (cell : Cell) (lane : Lane) → lane ≢ Requests → lane ≢ Answers → list_of (held_cell tree crew l o cell) lane ≡ messages_of (waiting_in tree crew l o lane)
waiting-cell tree crew l o cell UpRequests other another = refl
waiting-cell tree crew l o cell UpResponses other another = refl
waiting-cell tree crew l o cell Down other another = refl
waiting-cell tree crew l o cell Requests other another = absurd (other refl)
waiting-cell tree crew l o cell Answers other another = absurd (another refl)

nothing-sent : (tree : Tree) (crew : List Worker) (l o : ℕ) (lane : Lane) → lane ≢ Requests → lane ≢ Answers → line_of crew l o ≡ None → parent_of tree o ≡ None → sent_to tree crew l o lane ≡ []
nothing-sent tree crew l o UpRequests other another none parent = ap (λ found. option_map_or (λ (line : OnLine). sent_by tree o line.ends o UpRequests) found []) none
nothing-sent tree crew l o UpResponses other another none parent = ap (λ found. option_map_or (λ (line : OnLine). sent_by tree o line.ends o UpResponses) found []) none
nothing-sent tree crew l o Down other another none parent = ap (λ found. option_map_or (λ high. option_map_or (λ (line : OnLine). sent_by tree high line.ends o Down) (line_of crew l high) []) found []) parent
nothing-sent tree crew l o Requests other another none parent = absurd (other refl)
nothing-sent tree crew l o Answers other another none parent = absurd (another refl)

waiting-held : (p : Protocol) (tree : Tree) (k l o : ℕ) (line : Line) (crew : List Worker) (lane : Lane) → lane ≢ Requests → lane ≢ Answers → length line ≡ length tree → IsThere p tree k l o line crew ⊎ IsNowhere l o line crew → messages_of (waiting_in tree crew l o lane) ≡ list_at (held_line tree crew l line) o lane
waiting-held p tree k l o line crew lane other another size (inl it) = sym (list-held p tree k l o line crew lane it ∙ waiting-cell tree crew l o it.cell lane other another)
waiting-held p tree k l o line crew lane other another size (inr none) =
    let parent : parent_of tree o ≡ None = ap (option_and_then (λ (node : Node). node.parent)) (none-too line tree o (sym size) none.old) in
    let empty : waiting_in tree crew l o lane ≡ [] = ap (drop (length (received_from tree crew l o lane))) (nothing-sent tree crew l o lane other another none.new parent) ∙ drop_all (length (received_from tree crew l o lane)) [] (omega arith) in
    ap messages_of empty ∙ sym (no-list tree l o line crew lane none)

nothing-mapped : {A B : Type 0} (f : A → B) (xs : List A) → map f xs ≡ [] → xs ≡ []
nothing-mapped f [] none = refl
nothing-mapped f (x ∷ xs) none = cc

module _ (p : Protocol) (tree : Tree) (begun : State) (k slots : ℕ) (crew : List Worker) (law : IsTree tree) (fresh : IsFresh tree begun) (is : IsCrew p tree begun k slots crew) (knows : OnEdges tree crew KnowAll) (has : HasParts p tree begun k crew) where
  -- what the parts sent and received is what went over the ends
  sent-same : (l o : ℕ) (lane : Lane) → lane ≢ Answers → sent_over tree (parts_of has l) o lane ≡ sent_to tree crew l o lane
  sent-same l o lane other = by_sender (sender_of tree o lane) refl
    where
      by_sender : (found : Option ℕ) → sender_of tree o lane ≡ found → option_map_or (λ i. (has.at l i).part.sent o lane) found [] ≡ option_map_or (λ i. option_map_or (λ (line : OnLine). sent_by tree i line.ends o lane) (line_of crew l i) []) found []
      by_sender None at = refl
      by_sender (Some i) at = (has.at l i).sent o lane other at

  received-same : (l o : ℕ) (lane : Lane) → lane ≢ Requests → received_over tree (parts_of has l) o lane ≡ received_from tree crew l o lane
  received-same l o lane other = by_taker (taker_of tree o lane) refl
    where
      by_taker : (found : Option ℕ) → taker_of tree o lane ≡ found → option_map_or (λ i. (has.at l i).part.received o lane) found [] ≡ option_map_or (λ i. option_map_or (λ (line : OnLine). received_by tree i line.ends o lane) (line_of crew l i) []) found []
      by_taker None at = refl
      by_taker (Some i) at = (has.at l i).received o lane other at

  module _ (l : ℕ) (line : Line) (at : slice_get begun l ≡ Some line) where
    here : (o : ℕ) → IsThere p tree k l o line crew ⊎ IsNowhere l o line crew
    here o = there-or-not p tree begun k slots crew is l o line at (fresh.sized l line at)

    -- each part leads to what the crew holds of the object
    each-part : (o : ℕ) → IsPart p tree l o (local_at line o) (list_at line o Requests) (parts_of has l o) (local_at (held_line tree crew l line) o) (list_at (held_line tree crew l line) o Requests)
    each-part o =
        subst (λ end. IsPart p tree l o (local_at line o) (list_at line o Requests) (parts_of has l o) end (list_at (held_line tree crew l line) o Requests)) (local-held p tree k l o line crew (here o))
        (subst (λ left. IsPart p tree l o (local_at line o) (list_at line o Requests) (parts_of has l o) (option_map (λ (now : OnLine). now.local) (line_of crew l o)) left) (asked-held p tree k l o line crew (here o))
        (subst (λ found. IsPart p tree l o (option_and_then (λ (line : Line). local_at line o) found) (option_map_or (λ (line : Line). list_at line o Requests) found []) (parts_of has l o) (option_map (λ (now : OnLine). now.local) (line_of crew l o)) (option_map_or asked (line_of crew l o) [])) at
        (has.at l o).is))

    -- and what was sent and isn't received waits there
    edge-carried : (o : ℕ) (lane : Lane) → lane ≢ Requests → lane ≢ Answers → IsCarried tree (parts_of has l) o lane (list_at (held_line tree crew l line) o lane)
    edge-carried o lane other another =
        let flow = flows p tree begun k slots crew law is knows l o lane other another in
        let left : waiting_in tree crew l o lane ≡ flow.rest = ap (drop (length (received_from tree crew l o lane))) flow.whole ∙ drop_at (received_from tree crew l o lane) flow.rest (length (received_from tree crew l o lane)) refl in
        record {
          waiting = flow.rest;
          whole = sent-same l o lane another ∙ flow.whole ∙ ap (λ xs. xs ++ flow.rest) (sym (received-same l o lane other));
          rest = ap messages_of (sym left) ∙ waiting-held p tree k l o line crew lane other another (fresh.sized l line at) (here o);
        }

    carried : (o : ℕ) (lane : Lane) → lane ≢ Requests → IsCarried tree (parts_of has l) o lane (list_at (held_line tree crew l line) o lane)
    carried o UpRequests other = edge-carried o UpRequests other (λ is. cc)
    carried o UpResponses other = edge-carried o UpResponses other (λ is. cc)
    carried o Down other = edge-carried o Down other (λ is. cc)
    carried o Requests other = absurd (other refl)
    carried o Answers other = record { waiting = (has.at l o).part.sent o Answers; whole = refl; rest = (has.at l o).answers ∙ answers-held p tree k l o line crew (here o) }

    line-parts : AreLineParts p tree l line (parts_of has l) (held_line tree crew l line)
    line-parts = record { each = each-part; carried = carried }

  -- so the parts are tied
  pub crew-tied : AreTied p tree begun (parts_of has) (held tree crew begun)
  crew-tied =
      record {
        lines = length-map_each (held_line tree crew) 0 begun;
        each = λ l line end at there. subst (AreLineParts p tree l line (parts_of has l)) (line-held tree crew begun l line end at there) (line-parts l line at);
        none = λ l o at. nothing-mapped _ (has.at l o).part.made ((has.at l o).made ∙ ap (λ found. option_map_or (λ (now : OnLine). now.journal) found []) (no-line p tree begun k slots crew is l o at));
      }
