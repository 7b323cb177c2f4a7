-- What a round of all workers does, and what settling all edges does.
use Rattle.std.specs.Prelude.{ℕ, ◌≡◌, ◌+◌, ◌≤◌, Bool, false, cond, List, [], ◌∷◌, length}
use Rattle.hem_syntax.specs.Protocol.{Protocol}
use Rattle.hem_tree.specs.Tree.{Tree}
use Rattle.hem_system.specs.State.{State}
use Rattle.hem_turns.specs.OnLine.{IsSeen}
use Rattle.hem_worker.specs.Workers.{Worker, AreChanged, AreParts, IsStuck, journaled}
use Rattle.hem_worker.specs.Edges.{channels, IsLineStill}
use Rattle.hem_crew.specs.Knowing.{KnowAll, KnowNoMore, OnEdges}

-- a worker stays its object's: its lines may go on, what it did is still its parts, and its channels stay
pub record IsKept (p : Protocol) (old new : Worker) : Type 0 where
  pub same : new ≡ record old { lines = new.lines }
  pub count : length new.lines ≡ length old.lines
  pub parts : (tree : Tree) (start : State) → AreParts p tree start old → AreParts p tree start new
  pub channels : channels new ≡ channels old

-- one worker's share of a round: it fired, or it looked and nothing is possible
pub record IsTurn (p : Protocol) (fired : Bool) (old new : Worker) : Type 0 where
  pub kept : IsKept p old new
  pub longer : journaled old.lines + cond fired 1 0 ≤ journaled new.lines
  pub looked : fired ≡ false → AreChanged (λ l. IsSeen) old.lines new.lines
  pub stuck : fired ≡ false → IsStuck p new

-- how many firings are in the journals of all workers
abbrev pub all_journaled : List Worker → ℕ
all_journaled [] = 0
all_journaled (w ∷ crew) = journaled w.lines + all_journaled crew

-- a worker's share of a round in which some worker fired, or none
pub record IsShare (p : Protocol) (any : Bool) (old new : Worker) : Type 0 where
  pub fired : Bool
  pub turn : IsTurn p fired old new
  pub none : any ≡ false → fired ≡ false

-- a round of all workers, in which some fired, or none
pub record IsRoundOfAll (p : Protocol) (any : Bool) (old new : List Worker) : Type 0 where
  pub each : AreChanged (λ o. IsShare p any) old new
  pub longer : all_journaled old + cond any 1 0 ≤ all_journaled new

-- a worker does nothing, and its ends know of no less
pub record IsStill (p : Protocol) (old new : Worker) : Type 0 where
  pub kept : IsKept p old new
  pub lines : AreChanged (λ l. IsLineStill) old.lines new.lines

-- each edge is settled: no worker does anything, after it the ends know all, and before it they knew no more
pub record AreAllSettled (p : Protocol) (tree : Tree) (old new : List Worker) : Type 0 where
  pub still : AreChanged (λ o. IsStill p) old new
  pub after : OnEdges tree new KnowAll
  pub before : OnEdges tree old KnowNoMore
