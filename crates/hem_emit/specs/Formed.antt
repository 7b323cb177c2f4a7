-- Lines that have an image.
use Rattle.std.specs.Prelude.{ℕ, ◌≡◌, true, false, [], length, Some, Ok, IsTrue}
use Rattle.hem_base.specs.declared.ids.Kind.{Kind}
use Rattle.hem_base.specs.declared.ids.Firing.{Firing}
use Rattle.hem_syntax.specs.declared.rule.Rule.{Rule}
use Rattle.hem_syntax.specs.Protocol.{Protocol, part, rule_named}
use Rattle.hem_syntax.specs.Lawful.{is_rule, counts_of}
use Rattle.hem_template.specs.declared.template_name.TemplateName.{TemplateName}
use Rattle.hem_template.specs.Template.{template_of}
use Rattle.hem_fire.specs.OneFire.{me_fits}
use Rattle.hem_object.specs.Local.{Local, IsWellFormed}
use Rattle.hem_tree.specs.Tree.{Tree, IsLawful, kind_of, children_of}
use Rattle.hem_system.specs.declared.lane.Lane.{Lane}
use Rattle.hem_system.specs.State.{Line, local_at, list_at, is_own_child, place_of_me}
use Rattle.hem_invariants.specs.Missing.{has_list}

-- a line with every object of the tree, whose local states are well formed, and whose objects have nothing in the lists that they lack
pub record IsLine (p : Protocol) (tree : Tree) (line : Line) : Type 0 where
  pub objects : length line ≡ length tree
  pub locals : (o : ℕ) (kind : Kind) (local : Local) → kind_of tree o ≡ Some kind → local_at line o ≡ Some local → IsWellFormed p kind (length (children_of tree o)) local
  pub missing : (o : ℕ) (kind : Kind) (lane : Lane) → kind_of tree o ≡ Some kind → has_list kind lane ≡ false → list_at line o lane ≡ []

-- a firing that the lines of a tree may name: a rule of its object that has a template, with a child that fits, and the object's local state is well formed
pub record IsFiring (p : Protocol) (tree : Tree) (line : Line) (f : Firing) (kind : Kind) (rule : Rule) (t : TemplateName) (local : Local) : Type 0 where
  pub tree_is : IsLawful tree
  pub kind_is : kind_of tree f.object.0 ≡ Some kind
  pub named : rule_named p kind f.rule ≡ Some rule
  pub has : template_of p kind rule ≡ Ok t
  pub declared : IsTrue (is_rule (counts_of p (part p kind)) rule)
  pub own_child : is_own_child tree f.object.0 f.me ≡ true
  pub fits : IsTrue (me_fits kind rule.take (place_of_me tree f.object.0 f.me) (length (children_of tree f.object.0)))
  pub objects : length line ≡ length tree
  pub there : local_at line f.object.0 ≡ Some local
  pub formed : IsWellFormed p kind (length (children_of tree f.object.0)) local
