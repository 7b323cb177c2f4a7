-- Parts of the text of a state, by the places of a line and of an object.
use Rattle.std.specs.Prelude.{ℕ, []}
use Rattle.std.specs.Option.{option_map_or}
use Rattle.hem_syntax.specs.Protocol.{Protocol, Text}
use Rattle.hem_system.specs.State.{State, Cell, list_of, cell_at}
use Rattle.hem_system.specs.declared.lane.Lane.{Lane}
use Rattle.hem_report.specs.StateText.{list_line}

-- a text of the object at a place on the line at a place, where it is there
abbrev pub text_at : (Cell → Text) → State → ℕ → ℕ → Text
text_at f s l o = option_map_or f (cell_at s l o) []

-- the line of a list of that object
abbrev pub list_line_at : Protocol → State → ℕ → ℕ → Lane → Text
list_line_at p s l o lane = text_at (λ cell. list_line p o lane (list_of cell lane)) s l o
