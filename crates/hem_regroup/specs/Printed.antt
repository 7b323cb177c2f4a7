-- The blocks of members in their order.
use Rattle.std.specs.Prelude.{ℕ, ◌==◌, List, [], map, filter, length, slice_index_or}
use Rattle.hem_base.specs.declared.ids.Firing.{Firing}
use Rattle.hem_regroup.specs.declared.member.Member.{Member}
use Rattle.hem_regroup.specs.Members.{precedes}
use Rattle.hem_regroup.specs.Turns.{turns}
use Rattle.hem_trace.specs.Blocks.{Block}
use Rattle.hem_trace.specs.Order.{Entry}

-- the member of an entry
abbrev pub member_of : Entry → Member
member_of e = record { number = e.number; firing = e.event.firing }

-- the members of entries
abbrev pub members_of : List Entry → List Member
members_of es = map member_of es

-- the firings of a transaction, in the order of the members
abbrev pub firings_in : List Member → ℕ → List Firing
firings_in members number = map (λ r. r.firing) (filter (λ r. r.number == number) members)

-- the block of a transaction
abbrev pub block_of : List Member → ℕ → Block
block_of members number = record { number = number; firings = firings_in members number }

-- the block of a transaction, of lists of the firings of each
abbrev pub block_among : List (List Firing) → ℕ → Block
block_among groups number = record { number = number; firings = slice_index_or groups number [] }

-- the blocks of those left in their order
abbrev pub blocks_of : List Member → List ℕ → List Block
blocks_of members left = map (block_of members) (turns (length left) (precedes members) left)
