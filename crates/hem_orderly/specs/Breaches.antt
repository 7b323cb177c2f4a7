-- Lists of rules of which no upward request has a breach.
use Rattle.std.specs.Prelude.{Bool, true, not, ◌&&◌, ◌||◌, List, [], ◌∷◌, is_none}
use Rattle.hem_base.specs.declared.ids.Kind.{Kind}
use Rattle.hem_syntax.specs.declared.rule.Rule.{Rule}
use Rattle.hem_syntax.specs.Protocol.{Protocol}
use Rattle.hem_template.specs.Template.{template_of}
use Rattle.hem_template.specs.Waiting.{is_upward_template}
use Rattle.hem_abstract.specs.Stable.{first_unstable}

-- whether no upward request among these rules has a breach
abbrev pub have_no_breach : Protocol → Kind → List Rule → Bool
have_no_breach p kind [] = true
have_no_breach p kind (r ∷ rs) = (not (is_upward_template (template_of p kind r)) || is_none (first_unstable p kind r)) && have_no_breach p kind rs
