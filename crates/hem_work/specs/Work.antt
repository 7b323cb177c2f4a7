-- A work: what is to be done on each line.
use Rattle.std.specs.Prelude.{ℕ, List, [], length, sum_by, slice_index_or}
use Rattle.hem_base.specs.declared.ids.Message.{Message}
use Rattle.hem_text.specs.declared.text.Place.{Place}

-- what is to be done: how many lines, how many self firings each object may make on a line, and the requests by line and object; and where the word `work` of its text stands
pub record Work : Type 0 where
  pub place : Place
  pub lines : ℕ
  pub self_count : ℕ
  pub requests : List (List (List Message))

-- the requests of an object on a line
abbrev pub requests_of : Work → ℕ → ℕ → List Message
requests_of work line o = slice_index_or (slice_index_or work.requests line []) o []

-- how many requests a line has
abbrev pub requests_on : List (List Message) → ℕ
requests_on row = sum_by (λ requests. length requests) row

-- how many requests a work has in all
abbrev pub requests_in_all : Work → ℕ
requests_in_all work = sum_by requests_on work.requests
