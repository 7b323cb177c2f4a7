-- The text of a play.
use Rattle.std.specs.Prelude.{ℕ, nat_eq, cond, Bool, true, false, List, [], ◌∷◌, ◌++◌, flat_map, slice_get, unwrap_or, codes, decimal}
use Rattle.std.specs.List.{enumerate_from}
use Rattle.hem_base.specs.declared.ids.Message.{Message}
use Rattle.hem_syntax.specs.Protocol.{Text}
use Rattle.hem_module.specs.declared.turns.Played.{Played}
use Rattle.hem_module.specs.Modules.{Modules}
use Rattle.hem_module.specs.States.{State, queue_in}
use Rattle.hem_modprint.specs.ModulesText.{register_text}

-- whether no rule is left that can fire, or one is
abbrev pub stuck_text : Bool → Text
stuck_text true = codes "stuck\n"
stuck_text false = codes "more\n"

-- how many firings were made
abbrev pub fired_text : ℕ → Text
fired_text fired = codes "fired " ++ decimal fired ++ codes "\n"

-- what a register holds; one that isn't there holds 0
abbrev pub number_in : State → ℕ → ℕ
number_in s r = unwrap_or (slice_get s.regs r) 0

-- the line of a register that doesn't hold 0
abbrev pub held_text : List ℕ × ℕ → Text
held_text r = cond (nat_eq r.1 0) [] (register_text r)

-- an item: its id and its value
abbrev pub item_text : Message → Text
item_text m = codes " " ++ decimal m.id.0 ++ codes ":" ++ decimal m.value

-- the line of a queue that isn't empty: its items, head first
abbrev pub contents_text : Text → List Message → Text
contents_text name [] = []
contents_text name (m ∷ items) = codes "queue " ++ name ++ flat_map item_text (m ∷ items) ++ codes "\n"

-- the line of the register and of the queue at a place
abbrev pub register_part : State → ℕ × (List ℕ × ℕ) → Text
register_part s r = held_text (r.1.0, number_in s r.0)

abbrev pub queue_part : State → ℕ × List ℕ → Text
queue_part s q = contents_text q.1 (queue_in s q.0)

-- the text of a play that ends in a state: how it ended, its firings, and in text order the registers that don't hold 0 and the queues that aren't empty
abbrev pub play_text : Modules → State → Played → Text
play_text m s played =
    stuck_text played.stuck ++ fired_text played.fired
    ++ flat_map (register_part s) (enumerate_from 0 m.regs)
    ++ flat_map (queue_part s) (enumerate_from 0 m.queues)
    ++ codes "end\n"
