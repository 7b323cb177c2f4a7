-- What a firing of a rule that has a template does on a line.
use Rattle.std.specs.Prelude.{◌≡◌, true, Some, Ok}
use Rattle.hem_base.specs.declared.ids.Firing.{Firing}
use Rattle.hem_base.specs.declared.ids.Kind.{Kind}
use Rattle.hem_syntax.specs.declared.rule.Rule.{Rule}
use Rattle.hem_template.specs.declared.template_name.TemplateName.{TemplateName}
use Rattle.hem_syntax.specs.Protocol.{Protocol, rule_named}
use Rattle.hem_object.specs.Local.{Local}
use Rattle.hem_template.specs.Template.{template_of, row_of}
use Rattle.hem_tree.specs.Tree.{Tree, kind_of}
use Rattle.hem_system.specs.State.{Line, Effect, local_at, heads_of, is_own_child, place_of_me}
use Rattle.hem_rows.specs.Acts.{Acts}

-- a firing on a line acts as the row of its rule's template says
pub record IsActed (p : Protocol) (tree : Tree) (line : Line) (f : Firing) (e : Effect) : Type 0 where
  pub kind : Kind
  pub rule : Rule
  pub template : TemplateName
  pub local : Local
  pub kind_is : kind_of tree f.object.0 ≡ Some kind
  pub named : rule_named p kind f.rule ≡ Some rule
  pub has_template : template_of p kind rule ≡ Ok template
  pub own_child : is_own_child tree f.object.0 f.me ≡ true
  pub there : local_at line f.object.0 ≡ Some local
  pub acts : Acts p kind (row_of template) (place_of_me tree f.object.0 f.me) local (heads_of tree line f.object.0 f.me) e.after e.outs
