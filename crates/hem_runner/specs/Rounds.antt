-- Making room for a round, and a whole turn of a crew.
use Rattle.std.specs.Prelude.{ℕ, ◌≡◌, Bool, false, List, Some, slice_get}
use Rattle.hem_syntax.specs.Protocol.{Protocol}
use Rattle.hem_tree.specs.Tree.{Tree}
use Rattle.hem_system.specs.State.{State}
use Rattle.hem_worker.specs.Workers.{Worker, AreChanged, IsSameButRoom, HasRoom}
use Rattle.hem_crew.specs.Crew.{IsCrew}
use Rattle.hem_crew.specs.Knowing.{KnowAll, OnEdges}
use Rattle.hem_crew.specs.Rounds.{IsRoundOfAll, AreAllSettled}

-- a worker as before, but that on each line there is room for so many firings
pub record IsRoomier (burst : ℕ) (old new : Worker) : Type 0 where
  pub same : new ≡ record old { lines = new.lines }
  pub lines : AreChanged (λ l. IsSameButRoom) old.lines new.lines
  pub room : HasRoom burst new.lines

-- each worker has room for so many firings on each line
abbrev pub AllHaveRoom : ℕ → List Worker → Type 0
AllHaveRoom burst crew = (o : ℕ) (w : Worker) → slice_get crew o ≡ Some w → HasRoom burst w.lines

-- a turn of the whole crew: all edges are settled, then there is room, then a round, in which some worker fires or none
pub record IsTurnOfAll (p : Protocol) (tree : Tree) (burst : ℕ) (any : Bool) (old new : List Worker) : Type 0 where
  pub settled : List Worker
  pub roomier : List Worker
  pub settles : AreAllSettled p tree old settled
  pub reserves : AreChanged (λ o. IsRoomier burst) settled roomier
  pub round : IsRoundOfAll p any roomier new

-- a crew at its end: where its ends knew all there came a round in which no worker fired, and then all edges were settled
pub record IsAtEnd (p : Protocol) (tree : Tree) (begun : State) (k slots : ℕ) (crew : List Worker) : Type 0 where
  pub known : List Worker
  pub idle : List Worker
  pub is : IsCrew p tree begun k slots known
  pub knows : OnEdges tree known KnowAll
  pub round : IsRoundOfAll p false known idle
  pub settled : AreAllSettled p tree idle crew
