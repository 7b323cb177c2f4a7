-- The state that a crew holds.
use Rattle.std.specs.Prelude.{ℕ, List, [], length, drop}
use Rattle.std.specs.Option.{option_map_or}
use Rattle.hem_base.specs.declared.ids.Carried.{Carried}
use Rattle.hem_tree.specs.Tree.{Tree}
use Rattle.hem_system.specs.declared.lane.Lane.{Lane}
use Rattle.hem_system.specs.declared.lane.Lane.TheVariants.{UpRequests, UpResponses, Down}
use Rattle.hem_system.specs.State.{Cell, State, map_each, taker_of, sender_of}
use Rattle.hem_parts.specs.Parts.{messages_of}
use Rattle.hem_turns.specs.OnLine.{asked}
use Rattle.hem_worker.specs.Workers.{Worker}
use Rattle.hem_worker.specs.LineParts.{received_by, sent_by}
use Rattle.hem_crew.specs.Crew.{line_of}

-- what the sender of a list sent to it
abbrev pub sent_to : Tree → List Worker → ℕ → ℕ → Lane → List Carried
sent_to tree crew l k lane = option_map_or (λ o. option_map_or (λ line. sent_by tree o line.ends k lane) (line_of crew l o) []) (sender_of tree k lane) []

-- what the taker of a list received from it
abbrev pub received_from : Tree → List Worker → ℕ → ℕ → Lane → List Carried
received_from tree crew l k lane = option_map_or (λ o. option_map_or (λ line. received_by tree o line.ends k lane) (line_of crew l o) []) (taker_of tree k lane) []

-- what waits in a list: what was sent and isn't received
abbrev pub waiting_in : Tree → List Worker → ℕ → ℕ → Lane → List Carried
waiting_in tree crew l k lane = drop (length (received_from tree crew l k lane)) (sent_to tree crew l k lane)

-- an object on a line, as the crew holds it
abbrev pub held_cell : Tree → List Worker → ℕ → ℕ → Cell → Cell
held_cell tree crew l o cell =
    record {
      local = option_map_or (λ line. line.local) (line_of crew l o) cell.local;
      up_requests = messages_of (waiting_in tree crew l o UpRequests);
      up_responses = messages_of (waiting_in tree crew l o UpResponses);
      down = messages_of (waiting_in tree crew l o Down);
      requests = option_map_or asked (line_of crew l o) [];
      answers = option_map_or (λ line. line.answers) (line_of crew l o) [];
    }

-- the state that a crew holds which began at this start
abbrev pub held : Tree → List Worker → State → State
held tree crew start = map_each (λ l line. map_each (held_cell tree crew l) 0 line) 0 start
