-- A tree of objects: a list of nodes in preorder, each with its kind and its parent. Object k is node k.
use Rattle.std.specs.Prelude.{ℕ, zero, suc, ◌+◌, ◌<◌, ◌≤◌, ◌≡◌, ◌==◌, Bool, false, List, [], ◌∷◌, ◌++◌, length, Option, None, Some, slice_get, filter, count_by, option_map, option_and_then, Contains, ◌↔◌}
use Rattle.hem_base.specs.declared.ids.Kind.{Kind}
use Rattle.hem_base.specs.declared.ids.Kind.TheVariants.{Root, Leaf}
use Rattle.hem_tree.specs.Limits.{most_objects, most_children, most_levels}

-- an object: its kind and its parent, which the root lacks
pub record Node : Type 0 where
  pub kind : Kind
  pub parent : Option ℕ

-- the objects in preorder: each before its children, and each child with all below it before the next
abbrev pub Tree : Type 0
Tree = List Node

-- the numbers below n, in order
abbrev pub below : ℕ → List ℕ
below zero = []
below (suc n) = below n ++ n ∷ []

-- whether the number is there and is n
abbrev pub is_number : Option ℕ → ℕ → Bool
is_number None n = false
is_number (Some m) n = m == n

-- the object's kind
abbrev pub kind_of : Tree → ℕ → Option Kind
kind_of tree o = option_map (λ node. node.kind) (slice_get tree o)

-- the object's parent
abbrev pub parent_of : Tree → ℕ → Option ℕ
parent_of tree o = option_and_then (λ node. node.parent) (slice_get tree o)

-- whether low is a child of high
abbrev pub is_child : Tree → ℕ → ℕ → Bool
is_child tree low high = is_number (parent_of tree low) high

-- the object's children, in order
abbrev pub children_of : Tree → ℕ → List ℕ
children_of tree o = filter (λ k. is_child tree k o) (below (length tree))

-- the place of an object among the children of high: how many of them come before it
abbrev pub place_among : Tree → ℕ → ℕ → ℕ
place_among tree high o = count_by (λ k. is_child tree k high) (below o)

-- the objects above an object, nearest first, as far as so many steps go
abbrev pub path_up : ℕ → Tree → ℕ → List ℕ
path_up zero tree o = []
path_up (suc n) tree o = elim (parent_of tree o) [ None ↦ [] | Some high ↦ high ∷ path_up n tree high ]

-- the objects above an object, nearest first
abbrev pub path_of : Tree → ℕ → List ℕ
path_of tree o = path_up (length tree) tree o

-- the level of an object, 1 at the root
abbrev pub level_of : Tree → ℕ → ℕ
level_of tree o = length (path_of tree o) + 1

-- high is the parent of low, or that parent's parent, and so on
abbrev pub IsUnder : Tree → ℕ → ℕ → Type 0
IsUnder tree low high = Contains (path_of tree low) high

-- a finite tree: one root, all others below it in preorder, the leaves alone without children
pub record IsTree (tree : Tree) : Type 0 where
  pub root : slice_get tree 0 ≡ Some (record { kind = Root; parent = None })
  pub one_root : (o : ℕ) → kind_of tree o ≡ Some Root → o ≡ 0
  pub parents : (o : ℕ) → 0 < o → o < length tree → (high : ℕ) × (parent_of tree o ≡ Some high)
  pub preorder : (o high : ℕ) → parent_of tree (o + 1) ≡ Some high → Contains (o ∷ path_of tree o) high
  pub leaves : (o : ℕ) → o < length tree → (kind_of tree o ≡ Some Leaf) ↔ (children_of tree o ≡ [])

-- a lawful tree: a finite tree within the limits
pub record IsLawful (tree : Tree) : Type 0 where
  pub shape : IsTree tree
  pub objects : length tree ≤ most_objects
  pub children : (o : ℕ) → length (children_of tree o) ≤ most_children
  pub levels : (o : ℕ) → o < length tree → level_of tree o ≤ most_levels
