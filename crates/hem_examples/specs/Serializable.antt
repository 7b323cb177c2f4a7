-- What the theorem says of inclusive MSI and of its worked histories.
use Rattle.std.specs.Prelude.{◌≡◌, List}
use Rattle.hem_base.specs.declared.ids.Firing.{Firing}
use Rattle.hem_syntax.specs.Lawful.{IsProtocol}
use Rattle.hem_syntax.specs.Protocol.{Protocol}
use Rattle.hem_check.specs.Discipline.{IsDisciplined}
use Rattle.hem_tree.specs.Tree.{Tree, IsTree}
use Rattle.hem_work.specs.Work.{Work}
use Rattle.hem_system.specs.State.{State, Runs, start}
use Rattle.hem_trace.specs.Blocks.{IsSerial, SameFirings, firings_of}
use Rattle.hem_serial.specs.Histories.{IsHistory, printed_blocks}
use Rattle.hem_examples.specs.Msi.{msi}
use Rattle.hem_examples.specs.Examples.{Example, start_of}

-- a protocol meets the premises of the theorem
pub record IsAccepted (p : Protocol) : Type 0 where
  pub protocol : IsProtocol p
  pub disciplined : IsDisciplined p

-- every history of inclusive MSI on a lawful tree is serializable
pub record MsiIsSerializable : Type 0 where
  pub serial : (tree : Tree) (work : Work) (h : List Firing) (s : State) → IsTree tree → Runs msi tree (start msi tree work) h s → IsSerial msi tree (start msi tree work) (printed_blocks msi tree work h) s
  pub same : (tree : Tree) (work : Work) (h : List Firing) (s : State) → IsTree tree → Runs msi tree (start msi tree work) h s → SameFirings h (firings_of (printed_blocks msi tree work h))

-- a worked history is put into the theorem, and what comes out is its worked printed order
pub record GoesThrough (x : Example) : Type 0 where
  pub premises : IsHistory msi x.tree x.work x.history x.end
  pub printed : printed_blocks msi x.tree x.work x.history ≡ x.blocks
  pub serial : IsSerial msi x.tree (start_of msi x) x.blocks x.end
  pub same : SameFirings x.history (firings_of x.blocks)
