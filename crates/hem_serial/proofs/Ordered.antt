-- The normal order and the printed order of histories of disciplined protocols.
use Rattle.std.proofs.Common.{◌≡◌, ◌≢◌, sym, ap, subst, ℕ, Bool, true, List, length, map, Some}
use Rattle.std.proofs.lemmas.List.Sorted.{IsPermutation-map}
use Rattle.std.specs.Prelude.{IsPermutation}
use Rattle.hem_base.specs.declared.ids.Firing.{Firing}
use Rattle.hem_syntax.specs.Protocol.{Protocol}
use Rattle.hem_tree.specs.Tree.{Tree, parent_of}
use Rattle.hem_work.specs.Work.{Work}
use Rattle.hem_system.specs.State.{State, Runs, start, run}
use Rattle.hem_trace.specs.Blocks.{Each, IsSerial, SameFirings, firings_of}
use Rattle.hem_trace.specs.Order.{Entry, normal}
use Rattle.hem_law.specs.Orders.{stands_in, is_ahead, RowsAgree, PrecedenceRanks}
use Rattle.hem_law.specs.Printed.{AreTransactions, EntriesRun, rows_of, firings_in}
use Rattle.hem_law.proofs.Transactions.{are-transactions}
use Rattle.hem_law.proofs.NormalRun.{start-fresh, entries-firings}
use Rattle.hem_law.proofs.NormalSame.{normal-each}
use Rattle.hem_law.proofs.NormalKeeps.{normal-permutation}
use Rattle.hem_law.proofs.Precedence.{precedence-ranks}
use Rattle.hem_law.proofs.Reordered.{entries-inside}
use Rattle.hem_numbered.proofs.NormalRows.{normal_rows as rows_by_number}
use Rattle.hem_orderly.proofs.Orderly.{history_normal, history_serial}
use Rattle.hem_numbered.specs.Together.{StandTogether, StandAtMostThrice, AreConnected}
use Rattle.hem_numbered.specs.HaveRoles.{GoOneWay}
use Rattle.hem_numbered.proofs.OneWay.{one_way}
use Rattle.hem_numbered.proofs.Joined.{stand_together, are_connected, stand_thrice}
use Rattle.hem_check.proofs.Clauses.{templated, stable}
use Rattle.hem_serial.specs.Histories.{IsHistory, entries, printed_blocks, normal_entries, normal_order, normal_rows}

-- the printed order is serial, and has the firings of the history
pub serial : (p : Protocol) (tree : Tree) (work : Work) (h : List Firing) (s : State) → IsHistory p tree work h s → IsSerial p tree (start p tree work) (printed_blocks p tree work h) s
serial p tree work h s it = (history_serial p tree work h s it.protocol (stable p it.disciplined) it.shape (templated p it.disciplined) it.runs).0

pub same_firings : (p : Protocol) (tree : Tree) (work : Work) (h : List Firing) (s : State) → IsHistory p tree work h s → SameFirings h (firings_of (printed_blocks p tree work h))
same_firings p tree work h s it = (history_serial p tree work h s it.protocol (stable p it.disciplined) it.shape (templated p it.disciplined) it.runs).1

-- the normal order runs, and has the firings of the history
pub runs_normally : (p : Protocol) (tree : Tree) (work : Work) (h : List Firing) (s : State) → IsHistory p tree work h s → EntriesRun p tree (start p tree work) (normal (entries p tree work h)) s
runs_normally p tree work h s it = history_normal p tree work h s it.protocol (stable p it.disciplined) it.shape (templated p it.disciplined) it.runs

pub normal_runs : (p : Protocol) (tree : Tree) (work : Work) (h : List Firing) (s : State) → IsHistory p tree work h s → Runs p tree (start p tree work) (normal_order p tree work h) s
normal_runs p tree work h s it = record { leads = (runs_normally p tree work h s it).runs }

transactions : (p : Protocol) (tree : Tree) (work : Work) (h : List Firing) (s : State) → IsHistory p tree work h s → AreTransactions tree (entries p tree work h)
transactions p tree work h s it = are-transactions p tree (start p tree work) h s (start-fresh p tree work) it.runs.leads

pub normal_same : (p : Protocol) (tree : Tree) (work : Work) (h : List Firing) (s : State) → IsHistory p tree work h s → SameFirings h (normal_order p tree work h)
normal_same p tree work h s it =
    let es = entries p tree work h in
    subst (λ fs. IsPermutation fs (normal_order p tree work h)) (entries-firings p tree (start p tree work) h s it.runs.leads)
    (IsPermutation-map (λ x. x.event.firing) es (normal es) (normal-permutation tree es (transactions p tree work h s it)))

-- what stands at each object in the normal order
pub together : (p : Protocol) (tree : Tree) (work : Work) (h : List Firing) (s : State) (l : ℕ) → IsHistory p tree work h s → StandTogether (normal_rows p tree work h l)
together p tree work h s l it = stand_together p tree work h s s it.protocol it.shape (templated p it.disciplined) it.runs (runs_normally p tree work h s it) l

pub three : (p : Protocol) (tree : Tree) (work : Work) (h : List Firing) (s : State) (l : ℕ) → IsHistory p tree work h s → StandAtMostThrice (normal_rows p tree work h l)
three p tree work h s l it = stand_thrice p tree work h s s it.protocol it.shape (templated p it.disciplined) it.runs (runs_normally p tree work h s it) l

pub connected : (p : Protocol) (tree : Tree) (work : Work) (h : List Firing) (s : State) (l : ℕ) → IsHistory p tree work h s → AreConnected tree (normal_rows p tree work h l)
connected p tree work h s l it = are_connected p tree work h s s it.protocol it.shape (templated p it.disciplined) it.runs (runs_normally p tree work h s it) l

pub edges_one_way : (p : Protocol) (tree : Tree) (work : Work) (h : List Firing) (s : State) → IsHistory p tree work h s → GoOneWay p tree (entries p tree work h)
edges_one_way p tree work h s it = one_way p tree work h s it.protocol it.shape (templated p it.disciplined) it.runs

rows : (p : Protocol) (tree : Tree) (work : Work) (h : List Firing) (s : State) (l : ℕ) → IsHistory p tree work h s → RowsAgree tree (normal_rows p tree work h l)
rows p tree work h s l it =
    let ran = runs_normally p tree work h s it in
    rows_by_number p tree work h s s it.protocol it.shape (templated p it.disciplined) it.runs (transactions p tree work h s it) ran.runs ran.same ran.numbered l

pub agree : (p : Protocol) (tree : Tree) (work : Work) (h : List Firing) (s : State) (l o high t u : ℕ) → IsHistory p tree work h s → parent_of tree o ≡ Some high → t ≢ u → is_ahead (normal_rows p tree work h l o) t u ≡ true → stands_in (normal_rows p tree work h l high) t ≡ true → stands_in (normal_rows p tree work h l high) u ≡ true → is_ahead (normal_rows p tree work h l high) t u ≡ true
agree p tree work h s l o high t u it above differ ahead first second = (rows p tree work h s l it).agree o high t u above differ ahead first second

-- transactions don't precede each other in a circle
pub ranks : (p : Protocol) (tree : Tree) (work : Work) (h : List Firing) (s : State) → IsHistory p tree work h s → PrecedenceRanks (normal_entries p tree work h)
ranks p tree work h s it =
    let es = entries p tree work h in
    let are = transactions p tree work h s it in
    precedence-ranks tree (normal es) are.line_of it.shape
    (entries-inside p tree (start p tree work) (normal es) s (start-fresh p tree work) (runs_normally p tree work h s it))
    (λ l. rows p tree work h s l it)
    (normal-each (λ x. x.event.firing.line ≡ are.line_of x.number) es are.one_line)
