-- Well-formed states.
use Rattle.std.specs.Prelude.{ℕ, ◌≡◌, length, Some, slice_get, All}
use Rattle.hem_base.specs.declared.ids.Kind.{Kind}
use Rattle.hem_syntax.specs.Protocol.{Protocol}
use Rattle.hem_object.specs.Local.{Local, IsWellFormed}
use Rattle.hem_tree.specs.Tree.{Tree, kind_of, children_of}
use Rattle.hem_system.specs.declared.lane.Lane.{Lane}
use Rattle.hem_system.specs.State.{State, Line}
use Rattle.hem_system.specs.Laws.{list_in, local_in}
use Rattle.hem_invariants.specs.Declared.{IsDeclared}

-- a state in which each line has every object of the tree, each object's local state is well formed, and each message has a declared id
pub record IsFormed (p : Protocol) (tree : Tree) (s : State) : Type 0 where
  pub objects : (l : ℕ) (line : Line) → slice_get s l ≡ Some line → length line ≡ length tree
  pub locals : (l o : ℕ) (kind : Kind) (local : Local) → kind_of tree o ≡ Some kind → local_in s l o ≡ Some local → IsWellFormed p kind (length (children_of tree o)) local
  pub messages : (l o : ℕ) (lane : Lane) → All (IsDeclared p) (list_in s l o lane)
