-- The text of a state, and whether it is quiet.
use Rattle.std.specs.Prelude.{ℕ, cond, List, [], ◌∷◌, ◌++◌, flat_map, codes, decimal}
use Rattle.std.specs.Option.{option_map_or}
use Rattle.hem_base.specs.declared.ids.Message.{Message}
use Rattle.hem_syntax.specs.Protocol.{Protocol, Text}
use Rattle.hem_object.specs.Local.{Local}
use Rattle.hem_tree.specs.Tree.{Tree, kind_of, children_of}
use Rattle.hem_system.specs.State.{State, Line, Cell, list_of}
use Rattle.hem_system.specs.declared.lane.Lane.{Lane}
use Rattle.hem_system.specs.declared.lane.Lane.TheVariants.{UpRequests, UpResponses, Down, Requests, Answers}
use Rattle.hem_system.specs.Quiet.{holds_none, is_quiet}
use Rattle.hem_report.specs.Texts.{text_of_each, message_text}
use Rattle.hem_report.specs.LocalText.{object_line}

-- the word for a list
abbrev pub lane_text : Lane → Text
lane_text UpRequests = codes "uprq"
lane_text UpResponses = codes "uprs"
lane_text Down = codes "down"
lane_text Requests = codes "req"
lane_text Answers = codes "ans"

-- messages, each with a space before it, head first
abbrev pub messages_text : Protocol → List Message → Text
messages_text p messages = flat_map (λ m. codes " " ++ message_text p m) messages

-- the line of a list of object o, where it isn't empty
abbrev pub list_line : Protocol → ℕ → Lane → List Message → Text
list_line p o lane messages =
    cond (holds_none messages) [] (lane_text lane ++ codes " " ++ decimal o ++ messages_text p messages ++ codes "\n")

-- the order of an object's lists
abbrev pub lanes : List Lane
lanes = UpRequests ∷ UpResponses ∷ Down ∷ Requests ∷ Answers ∷ []

-- the lines of the lists of object o
abbrev pub list_lines : Protocol → ℕ → Cell → Text
list_lines p o cell = flat_map (λ lane. list_line p o lane (list_of cell lane)) lanes

-- the line of object o, where the tree has it
abbrev pub object_line_of : Protocol → Tree → ℕ → Local → Text
object_line_of p tree o local = option_map_or (λ kind. object_line p kind (children_of tree o) o local) (kind_of tree o) []

-- the lines of object o: of one that the tree doesn't have only its lists
abbrev pub object_text : Protocol → Tree → ℕ → Cell → Text
object_text p tree o cell = object_line_of p tree o cell.local ++ list_lines p o cell

-- the state of line l
abbrev pub line_text : Protocol → Tree → ℕ → Line → Text
line_text p tree l line = codes "line " ++ decimal l ++ codes "\n" ++ text_of_each (object_text p tree) 0 line

-- the state of all lines
abbrev pub state_text : Protocol → Tree → State → Text
state_text p tree s = codes "state\n" ++ text_of_each (line_text p tree) 0 s ++ codes "end\n"

-- the word for a state after a history
abbrev pub word_of : State → Text
word_of s = cond (is_quiet s) (codes "quiet\n") (codes "open\n")
