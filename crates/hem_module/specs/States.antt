-- The states of modules, and the step over places.
use Rattle.std.specs.Prelude.{ℕ, ◌≡◌, ◌++◌, Bool, true, false, Some, List, [], ◌∷◌, map, slice_get, slice_set, unwrap_or}
use Rattle.std.specs.Option.{option_map_or}
use Rattle.std.specs.List.{enumerate_from}
use Rattle.hem_base.specs.declared.ids.Message.{Message}
use Rattle.hem_module.specs.declared.rules.ModRule.{ModRule}
use Rattle.hem_module.specs.Module.{Item}
use Rattle.hem_module.specs.Modules.{Modules}
use Rattle.hem_module.specs.Step.{Held, mod_can, after_actions}
use Rattle.hem_module.specs.Places.{places, rule_of}

-- a state: each register's number, and each queue's messages, head first
pub record State : Type 0 where
  pub regs : List ℕ
  pub queues : List (List Message)

-- what a queue holds; one that isn't there holds nothing
abbrev pub queue_in : State → ℕ → List Message
queue_in s q = unwrap_or (slice_get s.queues q) []

-- a message as an item, and an item as a message
abbrev pub item_of : Message → Item
item_of m = record { id = m.id.0; value = m.value }

abbrev pub message_of : Item → Message
message_of m = record { id = record { 0 = m.id }; value = m.value }

-- a state by places
abbrev pub held_of : State → Held ℕ ℕ
held_of s = record { reg = λ r. unwrap_or (slice_get s.regs r) 0; queue = λ q. map item_of (queue_in s q) }

-- a rule can fire where every clause holds
abbrev pub can_fire : State → ModRule → Bool
can_fire s rule = mod_can (held_of s) (rule_of rule)

-- the registers and queues that are there, as this says
abbrev pub placed : State → Held ℕ ℕ → State
placed s after =
    record {
      regs = map (λ x. after.reg x.0) (enumerate_from 0 s.regs);
      queues = map (λ x. map message_of (after.queue x.0)) (enumerate_from 0 s.queues);
    }

-- the state to which a rule leads that can fire
abbrev pub stepped : State → ModRule → State
stepped s rule = placed s (after_actions places (held_of s) (rule_of rule).actions)

-- the state with one message more at the end of a queue
abbrev pub fed : State → ℕ → Message → State
fed s q m = record s { queues = slice_set s.queues q (queue_in s q ++ m ∷ []) }

-- the state at the start: each register as the modules say, and each queue empty
abbrev pub start_of : Modules → State
start_of m = record { regs = map (λ r. r.1) m.regs; queues = map (λ q. []) m.queues }

-- whether the rule at a place can fire
abbrev pub can_at : Modules → ℕ → State → Bool
can_at m r s = option_map_or (can_fire s) (slice_get m.rules r) false

-- the rule at a place can fire in the old state and leads to the new one
pub record Steps (m : Modules) (r : ℕ) (old new : State) : Type 0 where
  pub rule : ModRule
  pub here : slice_get m.rules r ≡ Some rule
  pub can : can_fire old rule ≡ true
  pub leads : new ≡ stepped old rule
