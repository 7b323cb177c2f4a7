-- The history of a crew at its end.
use Rattle.std.proofs.Common.{◌≡◌, sym, ◌∙◌, subst, ◌+◌, ◌*◌, ◌≤◌, arith, false, List, length, Some, Result, Ok, Err}
use Rattle.std.specs.Prelude.{IfOk}
use Rattle.std.proofs.lemmas.Option.{same_Some}
use Rattle.hem_base.specs.declared.ids.Firing.{Firing}
use Rattle.hem_base.specs.declared.ids.Stamped.{Stamped}
use Rattle.hem_syntax.specs.Protocol.{Protocol}
use Rattle.hem_syntax.specs.Lawful.{IsProtocol}
use Rattle.hem_check.specs.Discipline.{IsDisciplined}
use Rattle.hem_check.proofs.Clauses.{templated}
use Rattle.hem_tree.specs.Tree.{Tree, IsLawful}
use Rattle.hem_work.specs.Work.{Work}
use Rattle.hem_work.specs.Lawful.{IsLawfulWork}
use Rattle.hem_system.specs.State.{State, Runs, start}
use Rattle.hem_system.specs.Ended.{Ended}
use Rattle.hem_bound.specs.Starts.{IsWithin, requests_in}
use Rattle.hem_bound.proofs.Selfs.{firings_few}
use Rattle.hem_walk.proofs.Counting.{counts_same}
use Rattle.hem_merge.specs.Journals.{IsMerged}
use Rattle.hem_crew.specs.Crew.{journals_of}
use Rattle.hem_crew.specs.Held.{held}
use Rattle.hem_crew.proofs.Kept.{rounds-keep, journals-stay}
use Rattle.hem_crew.proofs.Merging.{crew-runs, crew-within}
use Rattle.hem_idle.proofs.IdleRound.{round-knows}
use Rattle.hem_idle.proofs.End.{idle-ended}
use Rattle.hem_runner.specs.Runs.{channel_slots, AreLastJournals, IsWholeHistory, IsRun}

-- the merged journals of a crew at its end lead to the state that it holds, and that is an end
pub run-held : (p : Protocol) (tree : Tree) (work : Work) (journals : List (List Stamped)) (h : List Firing) → IsProtocol p → IsDisciplined p → IsLawful tree → IsLawfulWork p tree work → (last : AreLastJournals p tree work journals) → IsMerged journals h → IsRun p tree work h (held tree last.ended.idle (start p tree work))
run-held p tree work journals h protocol disciplined lawful fits last merged =
    let end = last.ended in
    let is = rounds-keep p tree (start p tree work) work.self_count channel_slots false end.known end.idle end.is end.round in
    let knows = round-knows p end.known end.idle end.round tree end.knows in
    let settled : IsMerged (journals_of work.lines last.crew) h = subst (λ js. IsMerged js h) last.are merged in
    let idle : IsMerged (journals_of work.lines end.idle) h = subst (λ js. IsMerged js h) (journals-stay p tree work.lines end.idle last.crew end.settled) settled in
    let runs = crew-runs p tree work channel_slots end.idle h lawful.shape is knows idle in
    record {
      runs = runs;
      within = crew-within p tree work channel_slots end.idle h lawful.shape is knows idle;
      ended = idle-ended p tree work channel_slots end.known end.idle last.crew h protocol disciplined lawful fits (omega arith) end.is end.knows end.round end.settled settled runs;
    }

-- so they are a whole history
pub whole-history : (p : Protocol) (tree : Tree) (work : Work) (journals : List (List Stamped)) (h : List Firing) → IsProtocol p → IsDisciplined p → IsLawful tree → IsLawfulWork p tree work → AreLastJournals p tree work journals → IsMerged journals h → IsWholeHistory p tree work h
whole-history p tree work journals h protocol disciplined lawful fits last merged = record { state = held tree last.ended.idle (start p tree work); is = run-held p tree work journals h protocol disciplined lawful fits last merged }

-- the state to which a whole history leads is its end
pub run-ended : (p : Protocol) (tree : Tree) (work : Work) (h : List Firing) (state : State) → IsWholeHistory p tree work h → Runs p tree (start p tree work) h state → IsRun p tree work h state
run-ended p tree work h state whole runs =
    let one : Some whole.state ≡ Some state = sym whole.is.runs.leads ∙ runs.leads in
    let same : whole.state ≡ state = same_Some whole.state state one in
    record { runs = runs; within = whole.is.within; ended = subst (λ s. Ended p tree h s work.self_count) same whole.is.ended }

-- and it has few firings
pub run-few : (p : Protocol) (tree : Tree) (work : Work) (h : List Firing) (state : State) → IsDisciplined p → IsLawful tree → IsRun p tree work h state → length h ≤ 3 * length tree * (requests_in tree work + work.lines * (length tree * work.self_count))
run-few p tree work h state disciplined lawful is = firings_few p tree work work.self_count h state lawful.shape (templated p disciplined) few is.runs
  where
    few : IsWithin p tree work.self_count h
    few = record { few = λ l o. (let same = counts_same p tree h l o in let within = is.within l o in omega (arith, same, within)) }

-- what follows from a fact of what a call gave
pub if-ok-more : {A B : Type 0} (P Q : A → Type 0) (r : Result A B) → ((a : A) → P a → Q a) → IfOk r P → IfOk r Q
if-ok-more P Q (Ok a) more is = more a is
if-ok-more P Q (Err e) more is = tt
