-- A line of a state.
use Rattle.std.specs.Prelude.{ℕ, [], slice_index_or}
use Rattle.hem_system.specs.State.{Line, State}

-- the line at a place; one without objects where there is none
abbrev pub line_at : State → ℕ → Line
line_at s l = slice_index_or s l []
