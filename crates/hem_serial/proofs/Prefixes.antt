-- Prefixes of histories.
use Rattle.std.proofs.Common.{◌≡◌, refl, sym, ap, ◌∙◌, ℕ, zero, suc, ◌+◌, ◌*◌, ◌≤◌, List, [], ◌∷◌, length, Some, arith}
use Rattle.std.specs.Prelude.{take, option_and_then}
use Rattle.hem_base.specs.declared.ids.Firing.{Firing}
use Rattle.hem_syntax.specs.Protocol.{Protocol}
use Rattle.hem_tree.specs.Tree.{Tree}
use Rattle.hem_work.specs.Work.{Work}
use Rattle.hem_system.specs.State.{State, Runs, start, fire, run}
use Rattle.hem_rows.proofs.Choices.{if_some}
use Rattle.hem_locks.specs.Edges.{AllLocksHold}
use Rattle.hem_locks.proofs.Laws.{few_messages}
use Rattle.hem_locks.proofs.States.{reached-holds}
use Rattle.hem_check.proofs.Clauses.{templated}
use Rattle.hem_bound.specs.Starts.{starts}
use Rattle.hem_bound.specs.Potential.{potential_of}
use Rattle.hem_bound.proofs.Histories.{reached_after}
use Rattle.hem_serial.specs.Histories.{IsHistory, ListsAreShort}

-- a prefix of what runs runs
prefix_runs : (p : Protocol) (tree : Tree) (n : ℕ) (h : List Firing) (s new : State) → run p tree s h ≡ Some new → (mid : State) × (run p tree s (take n h) ≡ Some mid)
prefix_runs p tree zero h s new runs = (s, refl)
prefix_runs p tree (suc n) [] s new runs = (s, refl)
prefix_runs p tree (suc n) (f ∷ h) s new runs =
    let first = if_some (λ next. run p tree next h) (fire p tree s f) new runs in
    let rest = prefix_runs p tree n h first.0 new first.2 in
    (rest.0, ap (option_and_then (λ next. run p tree next (take n h))) first.1 ∙ rest.1)

-- the invariant of locks holds in each state that a history reaches
holds : (p : Protocol) (tree : Tree) (work : Work) (h : List Firing) (s : State) → IsHistory p tree work h s → AllLocksHold p tree s
holds p tree work h s it = reached-holds p tree work h s it.protocol it.shape (templated p it.disciplined) it.runs

-- a prefix of a history is one
prefix : (p : Protocol) (tree : Tree) (work : Work) (h : List Firing) (s : State) (n : ℕ) → IsHistory p tree work h s → (mid : State) × IsHistory p tree work (take n h) mid
prefix p tree work h s n it =
    let reached = prefix_runs p tree n h (start p tree work) s it.runs.leads in
    (reached.0, record { protocol = it.protocol; disciplined = it.disciplined; shape = it.shape; runs = record { leads = reached.1 } })

pub locks_throughout : (p : Protocol) (tree : Tree) (work : Work) (h : List Firing) (s : State) (n : ℕ) → IsHistory p tree work h s → (mid : State) × Runs p tree (start p tree work) (take n h) mid × AllLocksHold p tree mid
locks_throughout p tree work h s n it =
    let reached = prefix p tree work h s n it in
    (reached.0, reached.1.runs, holds p tree work (take n h) reached.0 reached.1)

pub short_throughout : (p : Protocol) (tree : Tree) (work : Work) (h : List Firing) (s : State) (n : ℕ) → IsHistory p tree work h s → (mid : State) × Runs p tree (start p tree work) (take n h) mid × ListsAreShort mid
short_throughout p tree work h s n it =
    let reached = prefix p tree work h s n it in
    let locks = holds p tree work (take n h) reached.0 reached.1 in
    (reached.0, reached.1.runs, record { few = λ l o line cell there at. few_messages p tree line o cell it.shape (locks.line l line there) at })

-- the number of firings
pub few_firings : (p : Protocol) (tree : Tree) (work : Work) (h : List Firing) (s : State) → IsHistory p tree work h s → length h ≤ 3 * length tree * starts p tree h
few_firings p tree work h s it = let bound = reached_after p tree work h s it.shape (templated p it.disciplined) it.runs in omega (arith, bound)
