-- A tree as its text gives it: the nodes in preorder, each with its level, and the tree of objects that they are.
use Rattle.std.specs.Prelude.{ℕ, zero, suc, ◌+◌, ◌≤◌, ◌≡◌, ◌≢◌, ◌==◌, Bool, List, [], ◌∷◌, length, Option, None, Some, slice_get, if◌then◌else◌}
use Rattle.std.specs.Option.{option_map_or}
use Rattle.hem_base.specs.declared.ids.Kind.{Kind}
use Rattle.hem_base.specs.declared.ids.Kind.TheVariants.{Root, Leaf}
use Rattle.hem_tree.specs.declared.raw.RawNode.{RawNode}
use Rattle.hem_tree.specs.Tree.{Tree}

-- the level of the node after this one: a leaf has nothing below it, and every other node has its first child next
abbrev pub IsLevelAfter : Kind → ℕ → ℕ → Type 0
IsLevelAfter Leaf level next = next ≤ level
IsLevelAfter _ level next = next ≡ level + 1

-- the nodes are a tree of the grammar: the first alone is a root and alone has level 1, each level fits the node before, and the last is a leaf
pub record IsRawTree (nodes : List RawNode) : Type 0 where
  pub first : (n : RawNode) × (slice_get nodes 0 ≡ Some n) × (n.kind ≡ Root) × (n.level ≡ 1)
  pub others : (k : ℕ) (n : RawNode) → slice_get nodes (k + 1) ≡ Some n → (n.kind ≢ Root) × (2 ≤ n.level)
  pub levels : (k : ℕ) (n next : RawNode) → slice_get nodes k ≡ Some n → slice_get nodes (k + 1) ≡ Some next → IsLevelAfter n.kind n.level next.level
  pub last : (k : ℕ) (n : RawNode) → k + 1 ≡ length nodes → slice_get nodes k ≡ Some n → n.kind ≡ Leaf

-- the greatest number below n that passes the test, if any
abbrev pub last_below : (ℕ → Bool) → ℕ → Option ℕ
last_below test zero = None
last_below test (suc n) = if test n then Some n else last_below test n

-- the level of a node, 0 past the end
abbrev pub level_at : List RawNode → ℕ → ℕ
level_at nodes k = option_map_or (λ n. n.level) (slice_get nodes k) 0

-- the parent of a node at a place and a level: the nearest earlier node of one level less
abbrev pub parent_in : List RawNode → ℕ → ℕ → Option ℕ
parent_in nodes k level = last_below (λ j. level_at nodes j + 1 == level) k

-- the objects of these nodes, of which the first stands at place k of all nodes
abbrev pub objects_from : List RawNode → ℕ → List RawNode → Tree
objects_from all k [] = []
objects_from all k (n ∷ rest) = record { kind = n.kind; parent = parent_in all k n.level } ∷ objects_from all (k + 1) rest

-- the tree of the nodes
abbrev pub tree_of : List RawNode → Tree
tree_of nodes = objects_from nodes 0 nodes
