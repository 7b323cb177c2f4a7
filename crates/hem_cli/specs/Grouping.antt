-- What the job `group` makes of a history.
use Rattle.std.specs.Prelude.{◌≡◌, ◌⊎◌, ℕ, List, ◌++◌}
use Rattle.hem_base.specs.declared.ids.Firing.{Firing}
use Rattle.hem_syntax.specs.Protocol.{Protocol}
use Rattle.hem_tree.specs.Tree.{Tree}
use Rattle.hem_work.specs.Work.{Work}
use Rattle.hem_system.specs.State.{State, Runs, start}
use Rattle.hem_system.specs.Replays.{IsIllegal}
use Rattle.hem_trace.specs.Blocks.{Block, IsSerial, SameFirings, firings_of}
use Rattle.hem_trace.specs.Order.{entries_of, printed}
use Rattle.hem_report.specs.Texts.{illegal_text}
use Rattle.hem_report.specs.StateText.{state_text}
use Rattle.hem_cli.specs.Texts.{grouped_text}
use Rattle.hem_cli.specs.declared.status.Status.{Status}
use Rattle.hem_cli.specs.declared.status.Status.TheVariants.{Done, Illegal}

-- the blocks of a history from the start to a state, in the printed order: one after another they are a history from the start to that state, each one whole transaction, with the firings of the history, each as often
pub record AreBlocksOf (p : Protocol) (tree : Tree) (work : Work) (h : List Firing) (end : State) (blocks : List Block) : Type 0 where
  pub order : blocks ≡ printed (entries_of p tree (start p tree work) h)
  pub serial : IsSerial p tree (start p tree work) blocks end
  pub same : SameFirings h (firings_of blocks)

-- a history with a firing that isn't possible, and the text of it: the first such place and the state before it
pub record IsStopped (p : Protocol) (tree : Tree) (work : Work) (h : List Firing) (text : List ℕ) : Type 0 where
  pub place : ℕ
  pub before : State
  pub stops : IsIllegal p tree (start p tree work) h place before
  pub says : text ≡ illegal_text place ++ state_text p tree before

-- a history that runs, and the text of it: the word, its blocks and the end state
pub record IsGrouped (p : Protocol) (tree : Tree) (work : Work) (h : List Firing) (text : List ℕ) : Type 0 where
  pub end : State
  pub runs : Runs p tree (start p tree work) h end
  pub blocks : List Block
  pub of : AreBlocksOf p tree work h end blocks
  pub says : text ≡ grouped_text p tree blocks end

-- what comes of a history: it stops, or it is grouped
abbrev pub IsReplayed : Protocol → Tree → Work → List Firing → Status → List ℕ → Type 0
IsReplayed p tree work h status text = ((status ≡ Illegal) × IsStopped p tree work h text) ⊎ ((status ≡ Done) × IsGrouped p tree work h text)
