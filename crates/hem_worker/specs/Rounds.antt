-- A round over the lines of an object.
use Rattle.std.specs.Prelude.{ℕ, ◌≡◌, ◌+◌, ◌≤◌, List}
use Rattle.hem_base.specs.declared.ids.Kind.{Kind}
use Rattle.hem_base.specs.declared.ids.ObjectId.{ObjectId}
use Rattle.hem_syntax.specs.Protocol.{Protocol}
use Rattle.hem_turns.specs.OnLine.{OnLine}
use Rattle.hem_worker.specs.Workers.{AreChanged, IsLineFired, journaled}

-- n firings, of at most so many, on one line after another
pub record IsRoundOf (p : Protocol) (kind : Kind) (self_count : ℕ) (object : ObjectId) (children : List ObjectId) (burst n : ℕ) (old new : List OnLine) : Type 0 where
  pub most : n ≤ burst
  pub lines : AreChanged (λ l. IsLineFired p kind self_count object children n burst l) old new
  pub grows : journaled new ≡ journaled old + n
