-- What the registers hold at the start.
use Rattle.std.specs.Prelude.{ℕ, slice_get}
use Rattle.std.specs.Option.{option_map_or}
use Rattle.hem_base.specs.declared.ids.Kind.{Kind}
use Rattle.hem_syntax.specs.Protocol.{Protocol, part}
use Rattle.hem_tree.specs.Tree.{Tree, kind_of, parent_of}
use Rattle.hem_emit.specs.Names.{Reg, field, val, lock, entry, awaits}

-- the first status of a field of a kind, as a number
abbrev pub first_of_field : Protocol → Kind → ℕ → ℕ
first_of_field p kind i = option_map_or (λ f. f.1.0) (slice_get (part p kind).fields i) 0

-- the first status of each directory entry of a kind, as a number
abbrev pub first_of_entry : Protocol → Kind → ℕ
first_of_entry p kind = option_map_or (λ s. s.0) (part p kind).dir 0

-- what a register holds at the start: the first status of a field and of a child's entry, and else 0
abbrev pub first_number : Protocol → Tree → Reg → ℕ
first_number p tree (field i o) = option_map_or (λ kind. first_of_field p kind i) (kind_of tree o) 0
first_number p tree (val o) = 0
first_number p tree (lock side part o) = 0
first_number p tree (entry c) = option_map_or (λ high. option_map_or (first_of_entry p) (kind_of tree high) 0) (parent_of tree c) 0
first_number p tree (awaits c) = 0
