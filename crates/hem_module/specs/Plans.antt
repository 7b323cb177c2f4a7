-- What the actions of a rule do, read from the state before, and what is left once it is done.
use Rattle.std.specs.Prelude.{ℕ, nat_eq, ◌-◌, cond, List, [], ◌∷◌, ◌++◌, length, take, drop, fold, slice_get, slice_set, unwrap_or}
use Rattle.std.specs.List.{flat_map}
use Rattle.std.specs.Option.{option_map_or}
use Rattle.indexmap.specs.IndexSet.{insert_all}
use Rattle.hem_base.specs.declared.ids.Message.{Message}
use Rattle.hem_module.specs.declared.plan.Write.{Write}
use Rattle.hem_module.specs.declared.plan.Sent.{Sent}
use Rattle.hem_module.specs.Module.{Deed, deq, put, enq, Action}
use Rattle.hem_module.specs.Step.{Held, head_of, amount_in, is_done}
use Rattle.hem_module.specs.States.{message_of}

-- the write of a deed, the message that it sends, and the queue that loses its head by it
abbrev pub write_by : Held ℕ ℕ → Deed ℕ ℕ → List Write
write_by s (put r amount) = record { register = r; number = amount_in s amount } ∷ []
write_by s _ = []

abbrev pub sent_by : Held ℕ ℕ → Deed ℕ ℕ → List Sent
sent_by s (enq q id amount) = record { queue = q; message = message_of (record { id = id; value = amount_in s amount }) } ∷ []
sent_by s _ = []

abbrev pub lost_by : Held ℕ ℕ → Deed ℕ ℕ → List ℕ
lost_by s (deq q) = option_map_or (λ m. q ∷ []) (head_of s q) []
lost_by s _ = []

-- the writes of actions, the messages that they send, and the queues that lose their heads
abbrev pub writes_of : Held ℕ ℕ → List (Action ℕ ℕ) → List Write
writes_of s actions = flat_map (λ a. cond (is_done s a) (write_by s a.deed) []) actions

abbrev pub sends_of : Held ℕ ℕ → List (Action ℕ ℕ) → List Sent
sends_of s actions = flat_map (λ a. cond (is_done s a) (sent_by s a.deed) []) actions

abbrev pub losses_of : Held ℕ ℕ → List (Action ℕ ℕ) → List ℕ
losses_of s actions = flat_map (λ a. cond (is_done s a) (lost_by s a.deed) []) actions

-- these queues and more, each once
abbrev pub with_queues : List ℕ → List ℕ → List ℕ
with_queues queues more = insert_all nat_eq queues more

-- a queue of these
abbrev pub queue_at : List (List Message) → ℕ → List Message
queue_at queues q = unwrap_or (slice_get queues q) []

-- the registers after a write, and after all of them
abbrev pub write_one : List ℕ → Write → List ℕ
write_one regs w = slice_set regs w.register w.number

abbrev pub written : List ℕ → List Write → List ℕ
written regs writes = fold write_one regs writes

-- the queues after a message is sent, and after all of them
abbrev pub send_one : List (List Message) → Sent → List (List Message)
send_one queues x = slice_set queues x.queue (queue_at queues x.queue ++ x.message ∷ [])

abbrev pub sent : List (List Message) → List Sent → List (List Message)
sent queues sends = fold send_one queues sends

-- the queues after the last message of one is taken back
abbrev pub unsend_one : List (List Message) → ℕ → List (List Message)
unsend_one queues q = slice_set queues q (take (length (queue_at queues q) - 1) (queue_at queues q))

-- the queues after one loses its head, and after all of these do
abbrev pub lose_one : List (List Message) → ℕ → List (List Message)
lose_one queues q = slice_set queues q (drop 1 (queue_at queues q))

abbrev pub lost : List (List Message) → List ℕ → List (List Message)
lost queues losses = fold lose_one queues losses
