-- The number of each event's transaction: a message carries the number of the transaction of the firing that sent it.
use Rattle.std.specs.Prelude.{ℕ, ◌+◌, cond, List, [], ◌∷◌, ◌++◌, drop, None, Some, slice_get, unwrap_or}
use Rattle.hem_tree.specs.Tree.{Tree}
use Rattle.hem_system.specs.Events.{Event}
use Rattle.hem_trace.specs.History.{Channel, channels_taken, takes_from, sends_to}

-- of each list, the numbers that its messages carry, in order
abbrev pub Tags : Type 0
Tags = Channel → List ℕ

-- no messages, so no numbers
abbrev pub no_tags : Tags
no_tags c = []

-- the numbers that the messages carry after an event of that number: a taken message takes its number along, a sent one gets the event's
abbrev pub tags_after : Tree → Tags → Event → ℕ → Tags
tags_after tree tags e n c = drop (cond (takes_from tree c e) 1 0) (tags c) ++ cond (sends_to tree c e) (n ∷ []) []

-- the number of an event: its own place where it takes nothing or a processor's request, else that of the message that it takes, of the least awaited child's
abbrev pub number_at : Tree → Tags → ℕ → Event → ℕ
number_at tree tags place e =
    elim (slice_get (channels_taken tree e) 0) [ None ↦ place | Some c ↦ unwrap_or (slice_get (tags c) 0) place ]

-- the numbers of events, the first of which stands at that place
abbrev pub numbers_by_tags : Tree → Tags → ℕ → List Event → List ℕ
numbers_by_tags tree tags place [] = []
numbers_by_tags tree tags place (e ∷ es) =
    let n = number_at tree tags place e in
    n ∷ numbers_by_tags tree (tags_after tree tags e n) (place + 1) es

-- the number of each event's transaction: the place of the transaction's first event
abbrev pub numbers_of : Tree → List Event → List ℕ
numbers_of tree es = numbers_by_tags tree no_tags 0 es
