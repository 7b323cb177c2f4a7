-- The potential of a line: how much work its messages and locks can still make.
use Rattle.std.specs.Prelude.{ℕ, ◌==◌, ◌+◌, ◌-◌, ◌*◌, length, Option, None, Some, slice_get}
use Rattle.std.specs.List.{sum_by}
use Rattle.std.specs.Option.{option_map_or}
use Rattle.hem_object.specs.declared.state.By.{By}
use Rattle.hem_object.specs.declared.state.By.TheVariants.{Kid}
use Rattle.hem_object.specs.declared.state.Lock.{Lock}
use Rattle.hem_tree.specs.Tree.{Tree, level_of}
use Rattle.hem_system.specs.State.{Cell, Line, State}
use Rattle.hem_bound.specs.Sums.{total}
use Rattle.hem_bound.specs.Sizes.{size_of, sizes_where}

-- the weight of a request on its way up from an object: the more, the further the object is from the root
abbrev pub up_weight : Tree → ℕ → ℕ
up_weight tree o = 2 * length tree + level_of tree o - 2

-- the weight of a message on its way down to an object
abbrev pub down_weight : Tree → ℕ → ℕ
down_weight tree o = 2 * size_of tree o

-- the size of the child for which an object works, none where it works for another
abbrev pub kid_size : Tree → ℕ → By → ℕ
kid_size tree o by = elim by [ Kid c ↦ sizes_where tree o (λ d. d == c) | _ ↦ 0 ]

-- the weight of an object's downlock: the response to the child for which it is held is still to come
abbrev pub lock_weight : Tree → ℕ → Option Lock → ℕ
lock_weight tree o None = 0
lock_weight tree o (Some lock) = 1 + 2 * kid_size tree o lock.by

-- the potential of an object: that of the messages of the edge to its parent, where responses on their way up weigh nothing, and that of its downlock; its uplock weighs nothing
abbrev pub cell_potential : Tree → ℕ → Cell → ℕ
cell_potential tree o cell =
    length cell.up_requests * up_weight tree o
    + length cell.down * down_weight tree o
    + lock_weight tree o cell.local.down

-- the potential of a line: that of its objects
abbrev pub potential : Tree → Line → ℕ
potential tree line = total (length tree) (λ o. option_map_or (cell_potential tree o) (slice_get line o) 0)

-- the potential of a state: that of its lines
abbrev pub potential_of : Tree → State → ℕ
potential_of tree s = sum_by (potential tree) s
