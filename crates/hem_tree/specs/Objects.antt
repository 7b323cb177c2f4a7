-- The objects of a tree as the queries find them.
use Rattle.std.specs.Prelude.{ℕ, ◌<◌, ◌≤◌, ◌≡◌, List, length, Option, None, Some, slice_get, map, option_map, option_and_then, count_by}
use Rattle.hem_base.specs.declared.ids.ObjectId.{ObjectId}
use Rattle.hem_tree.specs.declared.objects.Object.{Object}
use Rattle.hem_tree.specs.Limits.{most_objects}
use Rattle.hem_tree.specs.Tree.{Tree, Node, below, is_number, parent_of, children_of, level_of, IsLawful}
use Rattle.hem_tree.specs.Building.{passed_at}

-- the number of an object, where there is one
abbrev pub number_of : Option ObjectId → Option ℕ
number_of o = option_map (λ id. id.0) o

-- the number at a place of a list of parents
abbrev pub number_at : List (Option ObjectId) → ℕ → Option ℕ
number_at parents k = option_and_then number_of (slice_get parents k)

-- how many of the objects with these parents are children of a parent
abbrev pub elders_in : List (Option ObjectId) → Option ObjectId → ℕ
elders_in parents None = 0
elders_in parents (Some high) = count_by (λ k. is_number (number_at parents k) high.0) (below (length parents))

-- the parents of all objects, none of which passes a limit
pub record AreParents (tree : Tree) (parents : List (Option ObjectId)) : Type 0 where
  pub all : length parents ≡ length tree
  pub few : length tree ≤ most_objects
  pub each : (k : ℕ) → number_at parents k ≡ parent_of tree k
  pub none_passed : (k : ℕ) → k < length tree → passed_at tree k ≡ None

-- the kind and the parent of an object
abbrev pub node_of : Object → Node
node_of o = record { kind = o.kind; parent = number_of o.parent }

-- the tree of the objects
abbrev pub described : List Object → Tree
described objects = map node_of objects

-- what is kept of object k of the tree
pub record IsObjectOf (tree : Tree) (k : ℕ) (o : Object) : Type 0 where
  pub node : slice_get tree k ≡ Some (node_of o)
  pub depth : o.depth ≡ level_of tree k
  pub children : map (λ id. id.0) o.children ≡ children_of tree k

-- a lawful tree with what is kept of each object
pub record IsDescribed (objects : List Object) : Type 0 where
  pub lawful : IsLawful (described objects)
  pub each : (k : ℕ) (o : Object) → slice_get objects k ≡ Some o → IsObjectOf (described objects) k o

-- all that is kept of a lawful tree
pub record IsMade (tree : Tree) (objects : List Object) : Type 0 where
  pub described : described objects ≡ tree
  pub kept : IsDescribed objects
