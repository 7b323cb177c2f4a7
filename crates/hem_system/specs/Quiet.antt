-- Quiet states.
use Rattle.std.specs.Prelude.{◌==◌, Bool, ◌&&◌, List, length, is_none}
use Rattle.std.specs.List.{list_all}
use Rattle.hem_base.specs.declared.ids.Message.{Message}
use Rattle.hem_object.specs.Local.{Local}
use Rattle.hem_system.specs.State.{State, Cell}

-- whether a list holds no message
abbrev pub holds_none : List Message → Bool
holds_none messages = length messages == 0

-- whether an object has no message but answers
abbrev pub has_no_message : Cell → Bool
has_no_message cell = holds_none cell.up_requests && holds_none cell.up_responses && holds_none cell.down && holds_none cell.requests

-- whether an object holds no lock
abbrev pub has_no_lock : Local → Bool
has_no_lock local = is_none local.up && is_none local.down

-- whether an object has no message but answers, and holds no lock
abbrev pub is_idle : Cell → Bool
is_idle cell = has_no_message cell && has_no_lock cell.local

-- whether no list but the answers has a message, and no lock is held
abbrev pub is_quiet : State → Bool
is_quiet s = list_all (list_all is_idle) s
