-- Whole runs of a crew.
use Rattle.std.specs.Prelude.{ℕ, ◌≡◌, ◌≢◌, List, length}
use Rattle.hem_base.specs.declared.ids.Firing.{Firing}
use Rattle.hem_base.specs.declared.ids.Stamped.{Stamped}
use Rattle.hem_syntax.specs.Protocol.{Protocol}
use Rattle.hem_tree.specs.Tree.{Tree}
use Rattle.hem_work.specs.Work.{Work}
use Rattle.hem_system.specs.State.{State, Runs, start}
use Rattle.hem_system.specs.Ended.{Within, Ended}
use Rattle.hem_worker.specs.Workers.{Worker}
use Rattle.hem_crew.specs.Crew.{journal_on, journals_of}
use Rattle.hem_runner.specs.Rounds.{IsAtEnd}

-- how many slots each channel has
abbrev pub channel_slots : ℕ
channel_slots = 4

-- the journal of one line was taken out of a worker, and no other
pub record IsLineTaken (line : ℕ) (old new : Worker) : Type 0 where
  pub count : length new.lines ≡ length old.lines
  pub others : (l : ℕ) → l ≢ line → journal_on l new ≡ journal_on l old

-- the journals of a crew at its end
pub record AreLastJournals (p : Protocol) (tree : Tree) (work : Work) (journals : List (List Stamped)) : Type 0 where
  pub crew : List Worker
  pub ended : IsAtEnd p tree (start p tree work) work.self_count channel_slots crew
  pub are : journals ≡ journals_of work.lines crew

-- a history from the start of a work to its end: it leads to the state, within the bound on self firings, and the state is an end
pub record IsRun (p : Protocol) (tree : Tree) (work : Work) (h : List Firing) (state : State) : Type 0 where
  pub runs : Runs p tree (start p tree work) h state
  pub within : Within p tree h work.self_count
  pub ended : Ended p tree h state work.self_count

-- the same, whatever the state is
pub record IsWholeHistory (p : Protocol) (tree : Tree) (work : Work) (h : List Firing) : Type 0 where
  pub state : State
  pub is : IsRun p tree work h state
