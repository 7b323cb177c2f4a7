-- The history that is handed in, and its numbers.
use Rattle.std.proofs.Common.{◌≡◌, sym, subst, ℕ, List}
use Rattle.hem_base.specs.declared.ids.Firing.{Firing}
use Rattle.hem_syntax.specs.Protocol.{Protocol}
use Rattle.hem_syntax.specs.Lawful.{IsProtocol}
use Rattle.hem_check.specs.Discipline.{IsDisciplined}
use Rattle.hem_tree.specs.Tree.{Tree, IsTree}
use Rattle.hem_work.specs.Work.{Work}
use Rattle.hem_system.specs.State.{State, Runs, start}
use Rattle.hem_trace.specs.Blocks.{Block, IsSerial, SameFirings, firings_of}
use Rattle.hem_trace.specs.History.{events}
use Rattle.hem_trace.specs.Tags.{numbers_of}
use Rattle.hem_serial.specs.Histories.{IsHistory, printed_blocks}
use Rattle.hem_serial.proofs.Ordered.{serial, same_firings}
use Rattle.hem_regroup.specs.Histories.{IsNumberedHistory}

-- a history of an accepted protocol
pub history_of : (p : Protocol) (tree : Tree) (work : Work) (h : List Firing) (s : State) → IsProtocol p → IsDisciplined p → IsTree tree → Runs p tree (start p tree work) h s → IsHistory p tree work h s
history_of p tree work h s lawful disciplined shape runs = record { protocol = lawful; disciplined = disciplined; shape = shape; runs = runs }

-- such a history with its numbers
pub numbered_of : (p : Protocol) (tree : Tree) (work : Work) (h : List Firing) (numbers : List ℕ) (s : State) → IsHistory p tree work h s → numbers ≡ numbers_of tree (events p tree (start p tree work) h) → IsNumberedHistory p tree h numbers
numbered_of p tree work h numbers s history are = record { work = work; end = s; history = history; are = are }

-- what is told of the blocks of such a history
pub record AreTold (p : Protocol) (tree : Tree) (work : Work) (h : List Firing) (s : State) (blocks : List Block) : Type 0 where
  pub printed : blocks ≡ printed_blocks p tree work h
  pub serial : IsSerial p tree (start p tree work) blocks s
  pub same : SameFirings h (firings_of blocks)

-- blocks in the printed order are serial and have the firings of the history
in_order : (p : Protocol) (tree : Tree) (work : Work) (h : List Firing) (s : State) (blocks : List Block) → IsHistory p tree work h s → blocks ≡ printed_blocks p tree work h → AreTold p tree work h s blocks
in_order p tree work h s blocks history are = record {
  printed = are;
  serial = subst (λ bs. IsSerial p tree (start p tree work) bs s) (sym are) (serial p tree work h s history);
  same = subst (λ bs. SameFirings h (firings_of bs)) (sym are) (same_firings p tree work h s history);
}

-- the blocks that were found for a history with its numbers
pub told : (p a : Protocol) (tree : Tree) (work : Work) (h : List Firing) (numbers : List ℕ) (s : State) (blocks : List Block) → p ≡ a → IsProtocol a → IsDisciplined p → IsTree tree → Runs p tree (start p tree work) h s → numbers ≡ numbers_of tree (events p tree (start p tree work) h)
    → ((it : IsNumberedHistory p tree h numbers) → blocks ≡ printed_blocks p tree it.work h) → AreTold a tree work h s blocks
unfolding numbered_of
told p a tree work h numbers s blocks same lawful disciplined shape runs are found =
    let history = history_of p tree work h s (subst IsProtocol (sym same) lawful) disciplined shape runs in
    subst (λ z. AreTold z tree work h s blocks) same (in_order p tree work h s blocks history (found (numbered_of p tree work h numbers s history are)))
