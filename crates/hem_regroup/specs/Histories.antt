-- Histories with the numbers of their transactions.
use Rattle.std.specs.Prelude.{ℕ, ◌≡◌, ◌≢◌, true, List, Some}
use Rattle.hem_base.specs.declared.ids.Firing.{Firing}
use Rattle.hem_syntax.specs.Protocol.{Protocol}
use Rattle.hem_tree.specs.Tree.{Tree, parent_of}
use Rattle.hem_work.specs.Work.{Work}
use Rattle.hem_system.specs.State.{State, start}
use Rattle.hem_trace.specs.History.{events}
use Rattle.hem_trace.specs.Tags.{numbers_of}
use Rattle.hem_law.specs.Orders.{stands_in, is_ahead}
use Rattle.hem_serial.specs.Histories.{IsHistory}

-- a history of a disciplined protocol, from the start of some work to its end, and the number of each firing's transaction
pub record IsNumberedHistory (p : Protocol) (tree : Tree) (h : List Firing) (numbers : List ℕ) : Type 0 where
  pub work : Work
  pub end : State
  pub history : IsHistory p tree work h end
  pub are : numbers ≡ numbers_of tree (events p tree (start p tree work) h)

-- parent and child agree: two transactions that both fire at an object and at its parent stand in the same order at both; for each object of each line the numbers of those that fire there are given
pub record ParentsAndChildrenAgree (tree : Tree) (rows : ℕ → ℕ → List ℕ) : Type 0 where
  pub same : (l o high t u : ℕ) → parent_of tree o ≡ Some high → t ≢ u → is_ahead (rows l o) t u ≡ true → stands_in (rows l high) t ≡ true → stands_in (rows l high) u ≡ true → is_ahead (rows l high) t u ≡ true
