-- The canonical text of a tree.
use Rattle.std.specs.Prelude.{ℕ, ◌+◌, ◌-◌, nat_lt, if◌then◌else◌, [], ◌++◌, flat_map, length, replicate, codes}
use Rattle.std.specs.Option.{option_map_or}
use Rattle.hem_base.specs.Words.{word_bytes}
use Rattle.hem_base.specs.declared.ids.Kind.{Kind}
use Rattle.hem_base.specs.declared.ids.Kind.TheVariants.{Leaf}
use Rattle.hem_syntax.specs.Protocol.{Text}
use Rattle.hem_tree.specs.Grammar.{word_of}
use Rattle.hem_tree.specs.Tree.{Tree, below, kind_of, level_of}

-- the level of the object after this one, and 1 after the last
abbrev pub level_after : Tree → ℕ → ℕ
level_after tree o = if nat_lt (o + 1) (length tree) then level_of tree (o + 1) else 1

-- what stands after the leaves that end a family: a space before the next object of the tree
abbrev pub gap_after : Tree → ℕ → Text
gap_after tree o = if nat_lt (o + 1) (length tree) then codes " " else []

-- what stands after an object's word: a leaf closes each level between its own and that of the next object, and every other object opens one
abbrev pub after_word : Tree → ℕ → Kind → Text
after_word tree o Leaf = replicate (level_of tree o - level_after tree o) 41 ++ gap_after tree o
after_word tree o _ = codes "("

-- an object: its word and what stands after it
abbrev pub object_text : Tree → ℕ → Text
object_text tree o = option_map_or (λ kind. word_bytes (word_of kind) ++ after_word tree o kind) (kind_of tree o) []

-- the canonical text of a tree: its objects in order
abbrev pub tree_text : Tree → Text
tree_text tree = codes "tree " ++ flat_map (object_text tree) (below (length tree)) ++ codes "\n"
