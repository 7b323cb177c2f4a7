-- The state of what is kept: lists with room to spare, or without.
use Rattle.std.specs.Prelude.{List, [], map}
use Rattle.hem_base.specs.declared.ids.Message.{Message}
use Rattle.hem_object.specs.Local.{Local}
use Rattle.hem_system.specs.declared.cell.Cell.{Cell as Kept}
use Rattle.hem_system.specs.State.{Cell, Line, State}

-- an object as it is seen
abbrev pub seen : Kept → Cell
seen cell =
    record {
      local = cell.local;
      up_requests = cell.up_requests.messages;
      up_responses = cell.up_responses.messages;
      down = cell.down.messages;
      requests = cell.requests.messages;
      answers = cell.answers.messages;
    }

-- a line as it is seen
abbrev pub line_of : List Kept → Line
line_of cells = map seen cells

-- all lines as they are seen
abbrev pub state_of : List (List Kept) → State
state_of lines = map line_of lines

-- an object with requests, and with no other message
abbrev pub quiet_cell : Local → List Message → Cell
quiet_cell local requests =
    record { local = local; up_requests = []; up_responses = []; down = []; requests = requests; answers = [] }
