-- States of which each local state is one that its object's kind may have.
use Rattle.std.specs.Prelude.{ℕ, ◌≡◌, Some, slice_get}
use Rattle.hem_base.specs.declared.ids.Kind.{Kind}
use Rattle.hem_syntax.specs.Protocol.{Protocol}
use Rattle.hem_object.specs.Local.{Local}
use Rattle.hem_tree.specs.Tree.{Tree, kind_of}
use Rattle.hem_system.specs.State.{State, Line, local_at}
use Rattle.hem_abstract.specs.Stable.{IsOfKind}

-- each object's local state is one that its kind may have
pub record AreOfKinds (p : Protocol) (tree : Tree) (s : State) : Type 0 where
  pub locals : (l o : ℕ) (line : Line) (local : Local) (kind : Kind) → slice_get s l ≡ Some line → local_at line o ≡ Some local → kind_of tree o ≡ Some kind → IsOfKind p kind local
