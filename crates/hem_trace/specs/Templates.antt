-- The templates of the rules that firings name.
use Rattle.std.specs.Prelude.{Bool, false, Option, option_and_then}
use Rattle.std.specs.Option.{option_map_or}
use Rattle.hem_base.specs.declared.ids.Firing.{Firing}
use Rattle.hem_template.specs.declared.template_name.TemplateName.{TemplateName}
use Rattle.hem_syntax.specs.Protocol.{Protocol, rule_named}
use Rattle.hem_template.specs.Template.{template_of}
use Rattle.hem_template.specs.Waiting.{is_downward_template, template_if}
use Rattle.hem_tree.specs.Tree.{Tree, kind_of}

-- the template of a firing's rule, where it has one
abbrev pub template_at : Protocol → Tree → Firing → Option TemplateName
template_at p tree f =
    option_and_then (λ kind. option_and_then (λ rule. template_if (template_of p kind rule)) (rule_named p kind f.rule))
    (kind_of tree f.object.0)

-- whether a firing answers a request of the parent, passes it on, or answers it after the children did
abbrev pub is_downward : Protocol → Tree → Firing → Bool
is_downward p tree f =
    option_map_or (λ kind. option_map_or (λ rule. is_downward_template (template_of p kind rule)) (rule_named p kind f.rule) false)
    (kind_of tree f.object.0) false
