-- Histories of disciplined protocols, and the orders of their transactions.
use Rattle.std.specs.Prelude.{ℕ, ◌≡◌, List, Some, slice_get}
use Rattle.hem_base.specs.declared.ids.Firing.{Firing}
use Rattle.hem_syntax.specs.Protocol.{Protocol}
use Rattle.hem_syntax.specs.Lawful.{IsProtocol}
use Rattle.hem_check.specs.Discipline.{IsDisciplined}
use Rattle.hem_tree.specs.Tree.{Tree, IsTree}
use Rattle.hem_work.specs.Work.{Work}
use Rattle.hem_system.specs.State.{Cell, Line, State, Runs, start}
use Rattle.hem_trace.specs.Blocks.{Block}
use Rattle.hem_trace.specs.Order.{Entry, entries_of, normal, printed}
use Rattle.hem_locks.specs.Clean.{AreFew}
use Rattle.hem_law.specs.Printed.{firings_in, rows_of}

-- a history of a disciplined protocol on a finite tree: firings that run from the start of the work to a state
pub record IsHistory (p : Protocol) (tree : Tree) (work : Work) (h : List Firing) (s : State) : Type 0 where
  pub protocol : IsProtocol p
  pub disciplined : IsDisciplined p
  pub shape : IsTree tree
  pub runs : Runs p tree (start p tree work) h s

-- the entries of a history from the start: its events, each with its place, its transaction's number and its object's level
abbrev pub entries : Protocol → Tree → Work → List Firing → List Entry
entries p tree work h = entries_of p tree (start p tree work) h

-- the blocks of a history in the printed order
abbrev pub printed_blocks : Protocol → Tree → Work → List Firing → List Block
printed_blocks p tree work h = printed (entries p tree work h)

-- the entries of a history in the normal order
abbrev pub normal_entries : Protocol → Tree → Work → List Firing → List Entry
normal_entries p tree work h = normal (entries p tree work h)

-- the firings of a history in the normal order
abbrev pub normal_order : Protocol → Tree → Work → List Firing → List Firing
normal_order p tree work h = firings_in (normal_entries p tree work h)

-- for each object of a line the numbers of the transactions that fire there, in the normal order
abbrev pub normal_rows : Protocol → Tree → Work → List Firing → ℕ → ℕ → List ℕ
normal_rows p tree work h l = rows_of (normal_entries p tree work h) l

-- at each object of each line the list of requests up and that of responses up hold at most one message, and that of messages down at most two
pub record ListsAreShort (s : State) : Type 0 where
  pub few : (l o : ℕ) (line : Line) (cell : Cell) → slice_get s l ≡ Some line → slice_get line o ≡ Some cell → AreFew cell
