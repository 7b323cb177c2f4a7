-- Which limit a tree passes first, object by object.
use Rattle.std.specs.Prelude.{ℕ, ◌<◌, ◌≡◌, nat_le, nat_lt, List, length, Option, None, Some, slice_get, if◌then◌else◌}
use Rattle.std.specs.Option.{option_map_or}
use Rattle.hem_tree.specs.declared.setup.SetupFault.{SetupFault as Fault}
use Rattle.hem_tree.specs.declared.setup.SetupCause.{SetupCause}
use Rattle.hem_tree.specs.declared.setup.SetupCause.TheVariants.{Objects, Children, Levels}
use Rattle.hem_tree.specs.declared.raw.RawNode.{RawNode}
use Rattle.hem_tree.specs.declared.setup.SetupError.{SetupError}
use Rattle.hem_tree.specs.declared.setup.SetupError.TheVariants.{Setup, OutOfMemory}
use Rattle.hem_tree.specs.Limits.{most_objects, most_children, most_levels}
use Rattle.hem_tree.specs.Tree.{Tree, parent_of, place_among, level_of, IsLawful}
use Rattle.hem_tree.specs.Raw.{tree_of}

-- how many children of its parent stand before an object
abbrev pub elders_of : Tree → ℕ → ℕ
elders_of tree k = option_map_or (λ high. place_among tree high k) (parent_of tree k) 0

-- the first of the limits that an object passes, by its place, the children of its parent before it, and its level
abbrev pub limit_passed : ℕ → ℕ → ℕ → Option SetupCause
limit_passed place elders level =
    if nat_le most_objects place then Some Objects
    else if nat_le most_children elders then Some Children
    else if nat_lt most_levels level then Some Levels
    else None

-- the first of the limits that an object of a tree passes, if any
abbrev pub passed_at : Tree → ℕ → Option SetupCause
passed_at tree k = limit_passed k (elders_of tree k) (level_of tree k)

-- the object is the first that passes a limit, and this is the limit
pub record IsFirstPassed (tree : Tree) (k : ℕ) (cause : SetupCause) : Type 0 where
  pub within : k < length tree
  pub here : passed_at tree k ≡ Some cause
  pub before : (j : ℕ) → j < k → passed_at tree j ≡ None

-- the fault stands at the first node that passes a limit, and the tree of the nodes isn't lawful
pub record IsTreeFault (nodes : List RawNode) (fault : Fault) : Type 0 where
  pub place : ℕ
  pub node : RawNode
  pub there : slice_get nodes place ≡ Some node
  pub at_node : fault.place ≡ node.place
  pub first : IsFirstPassed (tree_of nodes) place fault.cause
  pub unlawful : IsLawful (tree_of nodes) → ⊥

-- a tree is refused for a fault, unless memory ran out
abbrev pub IsTreeRefused : List RawNode → SetupError → Type 0
IsTreeRefused nodes (Setup fault) = IsTreeFault nodes fault
IsTreeRefused nodes OutOfMemory = Unit {0}
