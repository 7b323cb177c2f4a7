-- Settling an edge on one line after another.
use Rattle.std.specs.Prelude.{ℕ, ◌≡◌, List, Some, slice_get, slice_set}
use Rattle.hem_turns.specs.OnLine.{OnLine}
use Rattle.hem_worker.specs.Edges.{IsLineSettled}

-- on the line at a place the edge is settled, and on no other
pub record IsSettledOn (line place : ℕ) (upper upper_next lower lower_next : List OnLine) : Type 0 where
  pub high : OnLine
  pub high_next : OnLine
  pub low : OnLine
  pub low_next : OnLine
  pub high_there : slice_get upper line ≡ Some high
  pub low_there : slice_get lower line ≡ Some low
  pub settled : IsLineSettled place high high_next low low_next
  pub upper_after : upper_next ≡ slice_set upper line high_next
  pub lower_after : lower_next ≡ slice_set lower line low_next
