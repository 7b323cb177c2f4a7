-- An idle crew holds an end: what is possible in it is hindered, and only by self firings that are all made.
use Rattle.std.proofs.Common.{◌≡◌, ap, sym, ◌∙◌, subst, ℕ, ◌+◌, ◌<◌, ◌≤◌, arith, true, false, List, [], map, length, Some, inl, inr}
use Rattle.std.specs.Prelude.{slice_get, option_map, option_and_then}
use Rattle.std.specs.Option.{option_map_or}
use Rattle.std.proofs.lemmas.List.{length-map}
use Rattle.hem_base.specs.declared.ids.Firing.{Firing}
use Rattle.hem_base.specs.declared.ids.Kind.{Kind}
use Rattle.hem_base.specs.declared.ids.Stamped.{Stamped}
use Rattle.hem_syntax.specs.Protocol.{Protocol}
use Rattle.hem_syntax.specs.Lawful.{IsProtocol}
use Rattle.hem_check.specs.Discipline.{IsDisciplined}
use Rattle.hem_check.proofs.Clauses.{templated}
use Rattle.hem_object.specs.Local.{IsWellFormed}
use Rattle.hem_tree.specs.Tree.{Tree, IsLawful, kind_of, children_of}
use Rattle.hem_work.specs.Work.{Work}
use Rattle.hem_work.specs.Lawful.{IsLawfulWork}
use Rattle.hem_system.specs.State.{Cell, Line, Runs, start, place_of_me}
use Rattle.hem_system.specs.Ended.{is_self, self_firings, Ended}
use Rattle.hem_locks.specs.Acted.{IsActed}
use Rattle.hem_locks.specs.Clean.{AreFew}
use Rattle.hem_locks.proofs.Acted.{acted}
use Rattle.hem_locks.proofs.Laws.{few_messages}
use Rattle.hem_locks.proofs.States.{reached-holds}
use Rattle.hem_invariants.proofs.Starts.{start-formed}
use Rattle.hem_invariants.proofs.StatesKept.{run-formed}
use Rattle.hem_law.proofs.NormalRun.{start-fresh}
use Rattle.hem_law.proofs.OwnEffect.{own_effect-parts}
use Rattle.hem_parts.specs.Merged.{stamped_of, all_made}
use Rattle.hem_parts.specs.Steps.{heads_from}
use Rattle.hem_parts.proofs.StampBound.{all-bounded}
use Rattle.hem_merge.specs.Journals.{all_of, IsMerged}
use Rattle.hem_ends.specs.Ends.{look_of}
use Rattle.hem_ends.specs.Edges.{KnowEachOther}
use Rattle.hem_choice.specs.Choices.{greatest_stamp, may_send, stamp_after}
use Rattle.hem_turns.specs.OnLine.{OnLine, asked}
use Rattle.hem_worker.specs.LineParts.{Stands, known_by}
use Rattle.hem_worker.specs.Workers.{Worker, IsLineStuck}
use Rattle.hem_worker.specs.Hindered.{IsHindered}
use Rattle.hem_worker.proofs.Stuck.{stuck-hindered}
use Rattle.hem_crew.specs.Crew.{line_of, IsCrew, journals_of}
use Rattle.hem_crew.specs.Knowing.{KnowAll, OnEdges}
use Rattle.hem_crew.specs.Rounds.{IsRoundOfAll, AreAllSettled, all_journaled}
use Rattle.hem_crew.specs.Held.{held_cell, held}
use Rattle.hem_crew.proofs.Kept.{rounds-keep, journals-stay}
use Rattle.hem_crew.proofs.ByPlace.{journals-made, journals-count}
use Rattle.hem_crew.proofs.PartAt.{HasParts, parts_of, crew-parts}
use Rattle.hem_crew.proofs.Tied.{held_line, each-at, crew-tied}
use Rattle.hem_crew.proofs.Merging.{start-lines, history-selfs}
use Rattle.hem_crew.proofs.Few.{crew-few}
use Rattle.hem_idle.proofs.IdleRound.{IsOnLine, on-line, stuck-line, round-knows, edges-exactly}
use Rattle.hem_idle.proofs.Possible.{IsPossible, possible, cell-held}
use Rattle.hem_idle.proofs.Slots.{may-send}
use Rattle.hem_idle.proofs.Stamps.{stamp-low}
use Rattle.hem_idle.proofs.Bounded.{firings-bounded}

-- stamps of so few firings stay below the greatest
none-past : (n stamp : ℕ) → n ≤ 38400000 → stamp ≤ n + 1 → greatest_stamp < stamp → ⊥
none-past n stamp few low past = absurd (omega (arith, few, low, past))

all-made : (selfs k counted own : ℕ) → k ≤ selfs → selfs ≤ k → counted ≡ own → own ≡ selfs → counted ≡ k
all-made selfs k counted own least most same is = omega (arith, least, most, same, is)

module _ (p : Protocol) (tree : Tree) (work : Work) (slots : ℕ) (lawful : IsProtocol p) (disciplined : IsDisciplined p) (law : IsLawful tree) (fits : IsLawfulWork p tree work) (crew : List Worker) (is : IsCrew p tree (start p tree work) work.self_count slots crew) (all : OnEdges tree crew KnowAll) where
  has : HasParts p tree (start p tree work) work.self_count crew
  has = crew-parts p tree (start p tree work) work.self_count slots crew (start-fresh p tree work) is

  -- an object's self firings in the history are those of its journal
  selfs-made : (h : List Firing) → IsMerged (journals_of work.lines crew) h → (l o : ℕ) (now : OnLine) → line_of crew l o ≡ Some now → self_firings p tree h l o ≡ self_firings p tree (map (λ s. s.firing) now.journal) l o
  selfs-made h merge l o now there =
      history-selfs p tree (start p tree work) work.self_count slots crew h law.shape (start-fresh p tree work) is all (subst (λ n. IsMerged (journals_of n crew) h) (sym (start-lines p tree work)) merge) has l o
      ∙ ap (λ found. self_firings p tree (map (λ (s : Stamped). s.firing) (option_map_or (λ (now : OnLine). now.journal) found [])) l o) there

  -- a possible firing has no stamp past the greatest
  made-few : length (all_made (length (start p tree work)) (length tree) (parts_of has)) ≤ 38400000
  made-few =
      let made : length (all_of (journals_of (length (start p tree work)) crew)) ≡ length (all_made (length (start p tree work)) (length tree) (parts_of has)) = ap length (journals-made (length (start p tree work)) (length tree) crew (parts_of has) is.count (λ l o. (has.at l o).made)) ∙ length-map (all_made (length (start p tree work)) (length tree) (parts_of has)) stamped_of in
      let count : length (all_of (journals_of (length (start p tree work)) crew)) ≡ all_journaled crew = journals-count (length (start p tree work)) crew (λ o w at. (is.each o w at).lines) in
      let few = crew-few p tree work slots crew lawful law.shape (templated p disciplined) is all in
      let bound = firings-bounded p tree work law fits in
      omega (arith, made, count, few, bound)

  past-none : (exact : OnEdges tree crew KnowEachOther) (f : Firing) (it : IsPossible p tree (start p tree work) work.self_count crew f) → greatest_stamp < stamp_after it.at.now.last (look_of it.at.now.ends) (place_of_me tree f.object.0 f.me) it.effect.outs → ⊥
  past-none exact f it past =
      let tied = crew-tied p tree (start p tree work) work.self_count slots crew law.shape (start-fresh p tree work) is all has in
      let n = length (all_made (length (start p tree work)) (length tree) (parts_of has)) in
      let own = (own_effect-parts p tree f it.at.now.local (heads_from tree (asked it.at.now) (known_by tree f.object.0 it.at.now.ends) f.object.0 f.me) it.effect it.there).child in
      let low = stamp-low p tree (start p tree work) work.self_count slots crew law.shape is exact has n (λ l o. all-bounded p tree (start p tree work) (parts_of has) (held tree crew (start p tree work)) l o (start-fresh p tree work) tied) f it.effect it.line own it.at in
      none-past n (stamp_after it.at.now.last (look_of it.at.now.ends) (place_of_me tree f.object.0 f.me) it.effect.outs) made-few low past

  module _ (exact : OnEdges tree crew KnowEachOther) (room : 2 < slots) (h : List Firing) (runs : Runs p tree (start p tree work) h (held tree crew (start p tree work))) (f : Firing) (it : IsPossible p tree (start p tree work) work.self_count crew f) where
    -- the line of the firing in the state that the crew holds
    line-there : slice_get (held tree crew (start p tree work)) f.line.0 ≡ Some (held_line tree crew f.line.0 it.line)
    line-there = each-at (held_line tree crew) (start p tree work) f.line.0 ∙ ap (option_map (held_line tree crew f.line.0)) it.line_there

    -- its lists are short
    lists-short : (i : ℕ) (cell : Cell) → slice_get it.line i ≡ Some cell → AreFew (held_cell tree crew f.line.0 i cell)
    lists-short i cell at =
        let locks = reached-holds p tree work h (held tree crew (start p tree work)) lawful law.shape (templated p disciplined) runs in
        few_messages p tree (held_line tree crew f.line.0 it.line) i (held_cell tree crew f.line.0 i cell) law.shape
        (locks.line f.line.0 (held_line tree crew f.line.0 it.line) line-there)
        (cell-held tree crew f.line.0 it.line i cell at)

    -- the firing acts as its rule's row says, on a well-formed local state
    acts : IsActed p tree (held_line tree crew f.line.0 it.line) f it.effect
    acts = acted p tree (held_line tree crew f.line.0 it.line) f it.effect (templated p disciplined) it.on_line

    formed : IsWellFormed p acts.kind (length (children_of tree f.object.0)) acts.local
    formed =
        let state = run-formed p tree (start p tree work) h (held tree crew (start p tree work)) lawful (start-formed p tree work lawful law.shape fits) runs.leads in
        state.locals f.line.0 f.object.0 acts.kind acts.local acts.kind_is
        (ap (λ found. option_map (λ (cell : Cell). cell.local) (option_and_then (λ (line : Line). slice_get line f.object.0) found)) line-there ∙ acts.there)

    -- so it isn't hindered by a full channel
    full-none : (kind : Kind) → IsLineStuck p kind work.self_count it.at.now → may_send (look_of it.at.now.ends) it.effect.outs.to ≡ false → ⊥
    full-none kind stuck none =
        may-send p tree (start p tree work) work.self_count slots crew law.shape (start-fresh p tree work) is exact room f it.effect kind it.line (held_line tree crew f.line.0 it.line) it.line_there it.at stuck lists-short acts formed none

  -- where nothing is possible on its line, its object's self firings are all made and it is one
  hindered : (exact : OnEdges tree crew KnowEachOther) (room : 2 < slots) (h : List Firing) (merge : IsMerged (journals_of work.lines crew) h) (runs : Runs p tree (start p tree work) h (held tree crew (start p tree work))) (f : Firing) (it : IsPossible p tree (start p tree work) work.self_count crew f) (here : IsOnLine crew f.line.0 f.object.0 it.at.now) → IsLineStuck p here.worker.kind here.worker.self_count it.at.now → (is_self p tree f ≡ true) × (self_firings p tree h f.line.0 f.object.0 ≡ work.self_count)
  hindered exact room h merge runs f it here stuck = by_cause (stuck-hindered p tree here.worker.kind work.self_count here.worker.children it.at.now f it.effect stands it.at.has.kids stuck_here it.there)
    where
      stuck_here : IsLineStuck p here.worker.kind work.self_count it.at.now
      stuck_here = subst (λ n. IsLineStuck p here.worker.kind n it.at.now) (is.each f.object.0 here.worker here.there).self_count stuck

      stands : Stands tree f.object here.worker.kind here.worker.children
      stands =
          let member = is.each f.object.0 here.worker here.there in
          record {
            kind_is = ap (kind_of tree) (sym member.object) ∙ member.parts.stands.kind_is;
            children_are = member.parts.stands.children_are ∙ ap (children_of tree) member.object;
          }

      by_cause : IsHindered p tree work.self_count it.at.now f it.effect → (is_self p tree f ≡ true) × (self_firings p tree h f.line.0 f.object.0 ≡ work.self_count)
      by_cause (inl spent) = (spent.0, all-made it.at.now.selfs work.self_count (self_firings p tree h f.line.0 f.object.0) (self_firings p tree (map (λ s. s.firing) it.at.now.journal) f.line.0 f.object.0) spent.1 it.at.has.few (selfs-made h merge f.line.0 f.object.0 it.at.now it.at.new) it.at.has.selfs)
      by_cause (inr (inl none)) = absurd (full-none exact room h runs f it here.worker.kind stuck_here none)
      by_cause (inr (inr past)) = absurd (past-none exact f it past)

-- after a round in which no worker fires, between two settles, a crew holds an end
pub idle-ended : (p : Protocol) (tree : Tree) (work : Work) (slots : ℕ) (known idle settled : List Worker) (h : List Firing) → IsProtocol p → IsDisciplined p → IsLawful tree → IsLawfulWork p tree work → 2 < slots → IsCrew p tree (start p tree work) work.self_count slots known → OnEdges tree known KnowAll → IsRoundOfAll p false known idle → AreAllSettled p tree idle settled → IsMerged (journals_of work.lines settled) h → Runs p tree (start p tree work) h (held tree idle (start p tree work)) → Ended p tree h (held tree idle (start p tree work)) work.self_count
idle-ended p tree work slots known idle settled h lawful disciplined law fits room was knows round after merge runs f next leads =
    let is = rounds-keep p tree (start p tree work) work.self_count slots false known idle was round in
    let all = round-knows p known idle round tree knows in
    let exact = edges-exactly tree idle all after.before in
    let same = subst (λ journals. IsMerged journals h) (journals-stay p tree work.lines idle settled after) merge in
    let it = possible p tree (start p tree work) work.self_count slots idle law.shape (start-fresh p tree work) is exact f next leads in
    let here = on-line idle f.line.0 f.object.0 it.at.now it.at.new in
    hindered p tree work slots lawful disciplined law fits idle is all exact room h same runs f it here (stuck-line p known idle round f.line.0 f.object.0 it.at.now here)
