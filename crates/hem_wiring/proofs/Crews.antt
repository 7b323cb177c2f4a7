-- A crew over the first lines of a work, and over one line more.
use Rattle.std.proofs.Common.{◌≡◌, refl, ap, sym, ◌∙◌, subst, ℕ, ◌+◌, ◌<◌, ◌^◌, arith, List, [], ◌∷◌, ◌++◌, length, map, Option, Some, None, ◌⊎◌, ⊎_elim, inl, inr, add-one, zero-add}
use Rattle.std.specs.Prelude.{slice_get, option_map, option_and_then}
use Rattle.std.specs.Option.{option_map_or}
use Rattle.std.proofs.lemmas.List.{length_push, length-map, map-append}
use Rattle.std.proofs.lemmas.List.Sums.{length-filter}
use Rattle.std.proofs.lemmas.Option.{slice_get_within, slice_get-map}
use Rattle.hem_tree.specs.Tree.{Tree, Node, below, kind_of, parent_of, is_child, children_of, place_among}
use Rattle.hem_tree.proofs.TreesOfTokens.{get_push}
use Rattle.hem_tree.proofs.Lawful.{get_within, length_below}
use Rattle.hem_base.specs.declared.ids.Kind.{Kind}
use Rattle.hem_base.specs.declared.ids.ObjectId.{ObjectId}
use Rattle.hem_base.specs.declared.ids.Message.{Message}
use Rattle.hem_rows.proofs.Choices.{if_some, if_mapped}
use Rattle.hem_syntax.specs.Protocol.{Protocol}
use Rattle.hem_object.specs.Local.{Local}
use Rattle.hem_object.specs.Start.{first_local}
use Rattle.hem_work.specs.Work.{Work, requests_of}
use Rattle.hem_system.specs.declared.lane.Lane.TheVariants.{Requests}
use Rattle.hem_system.specs.State.{Cell, Line, State, list_of, local_at, list_at, first_cell, first_line, start}
use Rattle.hem_system.proofs.Own.{slice_get-map_each}
use Rattle.hem_ends.specs.Ends.{Ends}
use Rattle.hem_turns.specs.OnLine.{OnLine}
use Rattle.hem_worker.specs.LineParts.{Stands, HasPart, IsNew}
use Rattle.hem_worker.specs.Workers.{Worker, IsAdded}
use Rattle.hem_worker.specs.Edges.{Channels, channels_of, channels}
use Rattle.hem_crew.specs.Crew.{IsMember, IsWired, IsCrew, AreJoinedAt, HasNoParent, channels_at}
use Rattle.hem_wiring.specs.Wiring.{IsBare, AreBare, CanTake, AreEnds, AreLinesAdded}

-- one worker more, without lines
pub no_workers : (tree : Tree) (k : ℕ) → AreBare tree k 0 []
no_workers tree k = record { count = refl; each = λ o w at. cc }

pub one_worker : (tree : Tree) (k n : ℕ) (crew : List Worker) (w : Worker) → AreBare tree k n crew → IsBare tree k n w → AreBare tree k (n + 1) (crew ++ w ∷ [])
one_worker tree k n crew w were bare =
    record {
      count = length_push crew w ∙ ap (λ m. m + 1) were.count;
      each = λ o v at. ⊎_elim (λ before. were.each o v before.1) (λ last. subst (λ m. IsBare tree k m v) (sym were.count ∙ sym last.0) (subst (IsBare tree k n) last.1 bare)) (get_push crew w o v at);
    }

-- the channels of a worker on a line are those of its ends there
wire_there : (crew : List Worker) (l o : ℕ) (wires : Channels) → channels_at (map channels crew) l o ≡ Some wires → (w : Worker) × (line : OnLine) × (slice_get crew o ≡ Some w) × (slice_get w.lines l ≡ Some line) × (channels_of line.ends ≡ wires)
wire_there crew l o wires at =
    let row = if_some (λ (lines : List Channels). slice_get lines l) (slice_get (map channels crew) o) wires at in
    let worker = if_mapped channels (slice_get crew o) row.0 (sym (slice_get-map channels crew o) ∙ row.1) in
    let line = if_mapped (λ (line : OnLine). channels_of line.ends) (slice_get worker.0.lines l) wires (sym (slice_get-map (λ (line : OnLine). channels_of line.ends) worker.0.lines l) ∙ ap (λ (lines : List Channels). slice_get lines l) worker.2 ∙ row.2) in
    (worker.0, line.0, worker.1, line.1, line.2)

wire_of : (crew : List Worker) (l o : ℕ) (w : Worker) (line : OnLine) → slice_get crew o ≡ Some w → slice_get w.lines l ≡ Some line → channels_at (map channels crew) l o ≡ Some (channels_of line.ends)
wire_of crew l o w line here there =
    ap (option_and_then (λ (lines : List Channels). slice_get lines l)) (slice_get-map channels crew o ∙ ap (option_map channels) here)
    ∙ slice_get-map (λ (line : OnLine). channels_of line.ends) w.lines l
    ∙ ap (option_map (λ (line : OnLine). channels_of line.ends)) there

-- workers without lines are a crew of no line
pub bare_crew : (p : Protocol) (tree : Tree) (k slots : ℕ) (crew : List Worker) → AreBare tree k (length tree) crew → IsCrew p tree [] k slots crew
bare_crew p tree k slots crew bare =
    record {
      count = bare.count;
      each = λ o w at. (let one = bare.each o w at in record {
        object = one.object;
        self_count = one.self_count;
        lines = ap length one.lines;
        parts = record { stands = one.stands; each = λ l line now first there. absurd (none_there l line first) };
      });
      wired = record {
        edges = λ l o high low up parent here there. absurd (no_wire l o low here);
        root = λ l o own none at. absurd (no_wire l o own at);
      };
    }
  where
    none_there : (l : ℕ) (line : Line) → slice_get [] l ≡ Some line → ⊥
    none_there l line at = cc

    no_wire : (l o : ℕ) (wires : Channels) → channels_at (map channels crew) l o ≡ Some wires → ⊥
    no_wire l o wires at =
        let it = wire_there crew l o wires at in
        let none : None ≡ Some it.1 = ap (λ (lines : List OnLine). slice_get lines l) (sym (bare.each o it.0 it.2).lines) ∙ it.3 in
        cc

-- an object on the line of the start
module _ (p : Protocol) (tree : Tree) (requests : ℕ → List Message) (o : ℕ) (kind : Kind) (is : kind_of tree o ≡ Some kind) where
  cell_there : (node : Node) × (slice_get (first_line p tree requests) o ≡ Some (first_cell p tree requests o node)) × (node.kind ≡ kind)
  cell_there =
      let node = if_mapped (λ (node : Node). node.kind) (slice_get tree o) kind is in
      (node.0, slice_get-map_each (first_cell p tree requests) 0 tree o ∙ ap (λ m. option_map (first_cell p tree requests m) (slice_get tree o)) (zero-add o) ∙ ap (option_map (first_cell p tree requests o)) node.1, node.2)

  first_local_there : local_at (first_line p tree requests) o ≡ Some (first_local p kind (length (children_of tree o)))
  first_local_there = ap (option_map (λ (cell : Cell). cell.local)) cell_there.1 ∙ ap (λ (k : Kind). Some (first_local p k (length (children_of tree o)))) cell_there.2

  first_requests_there : list_at (first_line p tree requests) o Requests ≡ requests o
  first_requests_there = ap (λ (cell : Option Cell). option_map_or (λ (cell : Cell). list_of cell Requests) cell []) cell_there.1

-- as many ends of children as there are children
child_count : (tree : Tree) (o : ℕ) (children : List ObjectId) → map (λ (id : ObjectId). id.0) children ≡ children_of tree o → length children ≡ length (children_of tree o)
child_count tree o children are = sym (length-map children (λ (id : ObjectId). id.0)) ∙ ap length are

-- a new line has the empty part
abbrev pub NewPart : Protocol → Tree → Type 0
NewPart p tree = (k l o : ℕ) (line : OnLine) → IsNew (length (children_of tree o)) line → HasPart p tree k l o (Some line.local) line.requests line

added_part : (p : Protocol) (tree : Tree) (requests : ℕ → List Message) (l o : ℕ) (own : Ends) (a b : Worker) → NewPart p tree → a.object.0 ≡ o → Stands tree a.object a.kind a.children → (added : IsAdded p (requests o) own a b) → HasPart p tree a.self_count l a.object.0 (local_at (first_line p tree requests) a.object.0) (list_at (first_line p tree requests) a.object.0 Requests) added.line
added_part p tree requests l o own a b new_part object stands added =
    let count = child_count tree a.object.0 a.children stands.children_are in
    let fresh : IsNew (length (children_of tree a.object.0)) added.line = subst (λ n. IsNew n added.line) count added.fresh in
    let local : Some added.line.local ≡ local_at (first_line p tree requests) a.object.0 = ap Some (added.local ∙ ap (first_local p a.kind) count) ∙ sym (first_local_there p tree requests a.object.0 a.kind stands.kind_is) in
    let asked : added.line.requests ≡ list_at (first_line p tree requests) a.object.0 Requests = added.requests_are ∙ ap requests (sym object) ∙ sym (first_requests_there p tree requests a.object.0 a.kind stands.kind_is) in
    subst (λ (rs : List Message). HasPart p tree a.self_count l a.object.0 (local_at (first_line p tree requests) a.object.0) rs added.line) asked
    (subst (λ (s : Option Local). HasPart p tree a.self_count l a.object.0 s added.line.requests added.line) local
    (new_part a.self_count l a.object.0 added.line fresh))

-- what a worker was before its line came
record WasWorker (p : Protocol) (requests : ℕ → List Message) (row : List Ends) (old : List Worker) (o : ℕ) (w : Worker) : Type 0 where
  before : Worker
  own : Ends
  at : slice_get old o ≡ Some before
  ends_at : slice_get row o ≡ Some own
  added : IsAdded p (requests o) own before w

-- the channels of an object on the line that came
record IsOnNew (row : List Ends) (n l o : ℕ) (wires : Channels) : Type 0 where
  same : l ≡ n
  own : Ends
  ends_at : slice_get row o ≡ Some own
  wires_are : channels_of own ≡ wires

module _ (p : Protocol) (tree : Tree) (requests : ℕ → List Message) (begun : State) (k slots : ℕ) (row : List Ends) (old new : List Worker) (new_part : NewPart p tree) (crew : IsCrew p tree begun k slots old) (ends : AreEnds tree slots (length tree) row) (added : AreLinesAdded p requests row old new) where
  was : (o : ℕ) (w : Worker) → slice_get new o ≡ Some w → WasWorker p requests row old o w
  was o w at =
      let within = slice_get_within new o w at in
      let a = get_within old o (omega (arith, within, added.count)) in
      let e = get_within row o (omega (arith, within, added.count, crew.count, ends.count)) in
      record { before = a.0; own = e.0; at = a.1; ends_at = e.1; added = added.each o e.0 a.0 w e.1 a.1 at }

  part : (o : ℕ) (w : Worker) (it : WasWorker p requests row old o w) (l : ℕ) (line : Line) (now : OnLine) → slice_get (begun ++ first_line p tree requests ∷ []) l ≡ Some line → slice_get (it.before.lines ++ it.added.line ∷ []) l ≡ Some now → HasPart p tree it.before.self_count l it.before.object.0 (local_at line it.before.object.0) (list_at line it.before.object.0 Requests) now
  part o w it l line now first there =
      let member = crew.each o it.before it.at in
      ⊎_elim
      (λ early. ⊎_elim
      (λ before. member.parts.each l line now early.1 before.1)
      (λ last. absurd (omega (arith, early.0, last.0, member.lines)))
      (get_push it.before.lines it.added.line l now there))
      (λ late. ⊎_elim
      (λ before. absurd (omega (arith, late.0, before.0, member.lines)))
      (λ last.
      subst (λ (line : Line). HasPart p tree it.before.self_count l it.before.object.0 (local_at line it.before.object.0) (list_at line it.before.object.0 Requests) now) late.1
      (subst (HasPart p tree it.before.self_count l it.before.object.0 (local_at (first_line p tree requests) it.before.object.0) (list_at (first_line p tree requests) it.before.object.0 Requests)) last.1
      (added_part p tree requests l o it.own it.before w new_part member.object member.parts.stands it.added)))
      (get_push it.before.lines it.added.line l now there))
      (get_push begun (first_line p tree requests) l line first)

  member_still : (o : ℕ) (w : Worker) → slice_get new o ≡ Some w → IsMember p tree (begun ++ first_line p tree requests ∷ []) k o w
  member_still o w at =
      let it = was o w at in
      let member = crew.each o it.before it.at in
      subst (IsMember p tree (begun ++ first_line p tree requests ∷ []) k o) (sym it.added.lines) (record {
        object = member.object;
        self_count = member.self_count;
        lines = length_push it.before.lines it.added.line ∙ ap (λ n. n + 1) member.lines ∙ sym (length_push begun (first_line p tree requests));
        parts = record { stands = member.parts.stands; each = part o w it };
      })

  wire_was : (l o : ℕ) (wires : Channels) → channels_at (map channels new) l o ≡ Some wires → ((l < length begun) × (channels_at (map channels old) l o ≡ Some wires)) ⊎ IsOnNew row (length begun) l o wires
  wire_was l o wires at =
      let there = wire_there new l o wires at in
      let it = was o there.0 there.2 in
      let size = (crew.each o it.before it.at).lines in
      ⊎_elim
      (λ before. inl (omega (arith, before.0, size), wire_of old l o it.before there.1 it.at before.1 ∙ ap Some there.4))
      (λ last. inr (record {
        same = last.0 ∙ size;
        own = it.own;
        ends_at = it.ends_at;
        wires_are = ap channels_of (sym it.added.ends_are) ∙ ap (λ (line : OnLine). channels_of line.ends) last.1 ∙ there.4;
      }))
      (get_push it.before.lines it.added.line l there.1 (ap (λ (w : Worker). slice_get w.lines l) (sym it.added.lines) ∙ there.3))

  wired_still : IsWired tree slots (map channels new)
  wired_still =
      record {
        edges = λ l o high low up parent here there. by_line l o high low up parent (wire_was l o low here) (wire_was l high up there);
        root = λ l o own none at.
            ⊎_elim
            (λ before. crew.wired.root l o own none before.1)
            (λ last. subst HasNoParent last.wires_are (ends.root o last.own none last.ends_at))
            (wire_was l o own at);
      }
    where
      by_line : (l o high : ℕ) (low up : Channels) → parent_of tree o ≡ Some high → ((l < length begun) × (channels_at (map channels old) l o ≡ Some low)) ⊎ IsOnNew row (length begun) l o low → ((l < length begun) × (channels_at (map channels old) l high ≡ Some up)) ⊎ IsOnNew row (length begun) l high up → AreJoinedAt slots (place_among tree high o) up low
      by_line l o high low up parent (inl here) (inl there) = crew.wired.edges l o high low up parent here.1 there.1
      by_line l o high low up parent (inl here) (inr there) = absurd (let same = there.same in omega (arith, here.0, same))
      by_line l o high low up parent (inr here) (inl there) = absurd (let same = here.same in omega (arith, there.0, same))
      by_line l o high low up parent (inr here) (inr there) =
          subst (λ (up : Channels). AreJoinedAt slots (place_among tree high o) up low) there.wires_are
          (subst (AreJoinedAt slots (place_among tree high o) (channels_of there.own)) here.wires_are
          (ends.edges o high here.own there.own parent here.ends_at there.ends_at))

  more_crew : IsCrew p tree (begun ++ first_line p tree requests ∷ []) k slots new
  more_crew = record { count = added.count ∙ crew.count; each = member_still; wired = wired_still }

-- the start of one line more
start_more : (p : Protocol) (tree : Tree) (work : Work) (n : ℕ) → start p tree (record work { lines = n + 1 }) ≡ start p tree (record work { lines = n }) ++ first_line p tree (requests_of work n) ∷ []
start_more p tree work n = rw add-one (map-append (λ l. first_line p tree (requests_of work l)) (below n) (n ∷ []))

pub longer_crew : (p : Protocol) (tree : Tree) (work : Work) (n k slots : ℕ) (row : List Ends) (old new : List Worker) → NewPart p tree → IsCrew p tree (start p tree (record work { lines = n })) k slots old → AreEnds tree slots (length tree) row → AreLinesAdded p (requests_of work n) row old new → IsCrew p tree (start p tree (record work { lines = n + 1 })) k slots new
longer_crew p tree work n k slots row old new new_part crew ends added =
    subst (λ (s : State). IsCrew p tree s k slots new) (sym (start_more p tree work n))
    (more_crew p tree (requests_of work n) (start p tree (record work { lines = n })) k slots row old new new_part crew ends added)

-- each worker of a crew can take one line more
pub crew_takes : (p : Protocol) (tree : Tree) (work : Work) (n k slots : ℕ) (row : List Ends) (crew : List Worker) → n + 1 < 2 ^ 32 → IsCrew p tree (start p tree (record work { lines = n })) k slots crew → AreEnds tree slots (length tree) row → (o : ℕ) (w : Worker) (own : Ends) → slice_get crew o ≡ Some w → slice_get row o ≡ Some own → CanTake own w
crew_takes p tree work n k slots row crew few is ends o w own here there =
    let member = is.each o w here in
    let lines : length w.lines ≡ n = member.lines ∙ length-map (below n) (λ l. first_line p tree (requests_of work l)) ∙ length_below n in
    record {
      few = omega (arith, few, lines);
      kids = ends.kids o own there ∙ sym (length-filter (λ k. is_child tree k o) (below (length tree))) ∙ sym (child_count tree w.object.0 w.children member.parts.stands.children_are ∙ ap (λ o. length (children_of tree o)) member.object);
      unused = ends.unused o own there;
    }

-- a crew of all lines is the work's
pub whole_crew : (p : Protocol) (tree : Tree) (work : Work) (n k slots : ℕ) (crew : List Worker) → n ≡ work.lines → IsCrew p tree (start p tree (record work { lines = n })) k slots crew → IsCrew p tree (start p tree work) k slots crew
whole_crew p tree work n k slots crew same is = subst (λ m. IsCrew p tree (start p tree (record work { lines = m })) k slots crew) same is
