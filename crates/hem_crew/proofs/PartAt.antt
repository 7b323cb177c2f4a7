-- The parts of a crew: of each object on each line, from what its worker has of it.
use Rattle.std.proofs.Common.{◌≡◌, ◌≢◌, refl, ap, sym, ◌∙◌, subst, ℕ, ◌≤◌, arith, List, [], map, length, Option, Some, None, ◌⊎◌, inl, inr}
use Rattle.std.specs.Prelude.{slice_get, option_map, option_and_then}
use Rattle.std.specs.Option.{option_map_or}
use Rattle.hem_base.specs.declared.ids.Message.{Message}
use Rattle.hem_syntax.specs.Protocol.{Protocol}
use Rattle.hem_object.specs.Local.{Local}
use Rattle.hem_tree.specs.Tree.{Tree}
use Rattle.hem_system.specs.declared.lane.Lane.{Lane}
use Rattle.hem_system.specs.declared.lane.Lane.TheVariants.{Requests, Answers}
use Rattle.hem_system.specs.State.{Cell, Line, State, list_of, local_at, list_at, taker_of, sender_of}
use Rattle.hem_system.specs.Ended.{self_firings}
use Rattle.hem_law.specs.Printed.{IsFresh}
use Rattle.hem_parts.specs.Parts.{Part, Parts, messages_of}
use Rattle.hem_parts.specs.Merged.{stamped_of}
use Rattle.hem_parts.specs.Steps.{empty_part}
use Rattle.hem_parts.specs.Tied.{IsPart}
use Rattle.hem_parts.proofs.AllRun.{there-too, none-too}
use Rattle.hem_parts.proofs.Step.{part-empty}
use Rattle.hem_turns.specs.OnLine.{OnLine, asked}
use Rattle.hem_worker.specs.LineParts.{received_by, sent_by, HasPart}
use Rattle.hem_worker.specs.Workers.{Worker}
use Rattle.hem_crew.specs.Crew.{line_of, IsCrew}

-- the part of an object on a line, from where it began and what its worker has of the line, if it is there
pub record IsPartAt (p : Protocol) (tree : Tree) (k l o : ℕ) (begun : Option Local) (requests : List Message) (found : Option OnLine) : Type 0 where
  pub part : Part
  pub is : IsPart p tree l o begun requests part (option_map (λ line. line.local) found) (option_map_or asked found [])
  pub made : map stamped_of part.made ≡ option_map_or (λ line. line.journal) found []
  pub received : (i : ℕ) (lane : Lane) → lane ≢ Requests → taker_of tree i lane ≡ Some o → part.received i lane ≡ option_map_or (λ line. received_by tree o line.ends i lane) found []
  pub sent : (i : ℕ) (lane : Lane) → lane ≢ Answers → sender_of tree i lane ≡ Some o → part.sent i lane ≡ option_map_or (λ line. sent_by tree o line.ends i lane) found []
  pub answers : messages_of (part.sent o Answers) ≡ option_map_or (λ line. line.answers) found []
  pub selfs : self_firings p tree (map (λ s. s.firing) (option_map_or (λ line. line.journal) found [])) l o ≤ k

part-some : (p : Protocol) (tree : Tree) (k l o : ℕ) (begun : Option Local) (requests : List Message) (now : OnLine) → HasPart p tree k l o begun requests now → IsPartAt p tree k l o begun requests (Some now)
part-some p tree k l o begun requests now has =
    record {
      part = has.part;
      is = has.is;
      made = has.journal;
      received = has.received;
      sent = has.sent;
      answers = has.answers;
      selfs = (let made = has.selfs in let few = has.few in omega (arith, made, few));
    }

part-none : (p : Protocol) (tree : Tree) (k l o : ℕ) → IsPartAt p tree k l o None [] None
part-none p tree k l o =
    record {
      part = empty_part;
      is = part-empty p tree l o None [];
      made = refl;
      received = λ i lane other mine. refl;
      sent = λ i lane other mine. refl;
      answers = refl;
      selfs = omega arith;
    }

-- an object that is on a line of the start and of the crew
pub record IsThere (p : Protocol) (tree : Tree) (k l o : ℕ) (line : Line) (crew : List Worker) : Type 0 where
  pub cell : Cell
  pub now : OnLine
  pub old : slice_get line o ≡ Some cell
  pub new : line_of crew l o ≡ Some now
  pub has : HasPart p tree k l o (local_at line o) (list_at line o Requests) now

-- and one that is on neither
pub record IsNowhere (l o : ℕ) (line : Line) (crew : List Worker) : Type 0 where
  pub old : slice_get line o ≡ None
  pub new : line_of crew l o ≡ None

-- where a line of the start has as many objects as the tree, each object is on both or on neither
pub there-or-not : (p : Protocol) (tree : Tree) (begun : State) (k slots : ℕ) (crew : List Worker) → IsCrew p tree begun k slots crew → (l o : ℕ) (line : Line) → slice_get begun l ≡ Some line → length line ≡ length tree → IsThere p tree k l o line crew ⊎ IsNowhere l o line crew
there-or-not p tree begun k slots crew is l o line at size = by_worker (slice_get crew o) refl
  where
    by_worker : (found : Option Worker) → slice_get crew o ≡ found → IsThere p tree k l o line crew ⊎ IsNowhere l o line crew
    by_worker None none = inr (record { old = none-too crew line o (size ∙ sym is.count) none; new = ap (option_and_then (λ (w : Worker). slice_get w.lines l)) none })
    by_worker (Some w) found =
        let member = is.each o w found in
        let now = there-too begun w.lines l line member.lines at in
        let cell = there-too crew line o w (size ∙ sym is.count) found in
        let had : HasPart p tree w.self_count l w.object.0 (local_at line w.object.0) (list_at line w.object.0 Requests) now.0 = member.parts.each l line now.0 at now.1 in
        inl (record {
          cell = cell.0;
          now = now.0;
          old = cell.1;
          new = ap (option_and_then (λ (w : Worker). slice_get w.lines l)) found ∙ now.1;
          has = subst (λ n. HasPart p tree n l o (local_at line o) (list_at line o Requests) now.0) member.self_count (subst (λ o. HasPart p tree w.self_count l o (local_at line o) (list_at line o Requests) now.0) member.object had);
        })

-- on a line that the start has not the crew has none
pub no-line : (p : Protocol) (tree : Tree) (begun : State) (k slots : ℕ) (crew : List Worker) → IsCrew p tree begun k slots crew → (l o : ℕ) → slice_get begun l ≡ None → line_of crew l o ≡ None
no-line p tree begun k slots crew is l o none = by_worker (slice_get crew o) refl
  where
    by_worker : (found : Option Worker) → slice_get crew o ≡ found → line_of crew l o ≡ None
    by_worker None at = ap (option_and_then (λ (w : Worker). slice_get w.lines l)) at
    by_worker (Some w) at = ap (option_and_then (λ (w : Worker). slice_get w.lines l)) at ∙ none-too begun w.lines l (is.each o w at).lines none

-- where an object began, and with which requests
abbrev pub local_in : State → ℕ → ℕ → Option Local
local_in begun l o = option_and_then (λ line. local_at line o) (slice_get begun l)

abbrev pub asked_in : State → ℕ → ℕ → List Message
asked_in begun l o = option_map_or (λ line. list_at line o Requests) (slice_get begun l) []

-- the parts of a crew that began at this start
pub record HasParts (p : Protocol) (tree : Tree) (begun : State) (k : ℕ) (crew : List Worker) : Type 0 where
  pub at : (l o : ℕ) → IsPartAt p tree k l o (local_in begun l o) (asked_in begun l o) (line_of crew l o)

abbrev pub parts_of : {p : Protocol} {tree : Tree} {begun : State} {k : ℕ} {crew : List Worker} → HasParts p tree begun k crew → Parts
parts_of has l o = (has.at l o).part

-- the part at a place, by what stands there
abbrev AtPlace : Protocol → Tree → ℕ → ℕ → ℕ → Option Line → Option OnLine → Type 0
AtPlace p tree k l o line found = IsPartAt p tree k l o (option_and_then (λ line. local_at line o) line) (option_map_or (λ line. list_at line o Requests) line []) found

abbrev InLine : Protocol → Tree → ℕ → ℕ → ℕ → Option Cell → Option OnLine → Type 0
InLine p tree k l o cell found = IsPartAt p tree k l o (option_map (λ cell. cell.local) cell) (option_map_or (λ cell. list_of cell Requests) cell []) found

pub crew-parts : (p : Protocol) (tree : Tree) (begun : State) (k slots : ℕ) (crew : List Worker) → IsFresh tree begun → IsCrew p tree begun k slots crew → HasParts p tree begun k crew
crew-parts p tree begun k slots crew fresh is = record { at = λ l o. by_line l o (slice_get begun l) refl }
  where
    on_line : (l o : ℕ) (line : Line) → IsThere p tree k l o line crew ⊎ IsNowhere l o line crew → AtPlace p tree k l o (Some line) (line_of crew l o)
    on_line l o line (inl there) = subst (AtPlace p tree k l o (Some line)) (sym there.new) (part-some p tree k l o (local_at line o) (list_at line o Requests) there.now there.has)
    on_line l o line (inr none) = subst (λ cell. InLine p tree k l o cell (line_of crew l o)) (sym none.old) (subst (InLine p tree k l o None) (sym none.new) (part-none p tree k l o))

    by_line : (l o : ℕ) (line : Option Line) → slice_get begun l ≡ line → AtPlace p tree k l o (slice_get begun l) (line_of crew l o)
    by_line l o None at = subst (λ line. AtPlace p tree k l o line (line_of crew l o)) (sym at) (subst (AtPlace p tree k l o None) (sym (no-line p tree begun k slots crew is l o at)) (part-none p tree k l o))
    by_line l o (Some line) at = subst (λ line. AtPlace p tree k l o line (line_of crew l o)) (sym at) (on_line l o line (there-or-not p tree begun k slots crew is l o line at (fresh.sized l line at)))
