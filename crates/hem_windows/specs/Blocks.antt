-- Whole downward blocks of an object: what it does for its parent while its own request is pending.
use Rattle.std.specs.Prelude.{ℕ, ◌==◌, Bool, true, false, cond, List, [], ◌∷◌, None, filter_map}
use Rattle.hem_base.specs.declared.ids.Firing.{Firing}
use Rattle.hem_template.specs.declared.template_name.TemplateName.{TemplateName}
use Rattle.hem_template.specs.declared.template_name.TemplateName.TheVariants.{ImmUp, RqDownDown, RsUpUp}
use Rattle.hem_syntax.specs.Protocol.{Protocol}
use Rattle.hem_tree.specs.Tree.{Tree}
use Rattle.hem_trace.specs.Templates.{template_at}

-- the templates that an object fires, in order
abbrev pub templates_at : Protocol → Tree → ℕ → List Firing → List TemplateName
templates_at p tree o h = filter_map (λ f. cond (f.object.0 == o) (template_at p tree f) None) h

-- whether templates are whole downward blocks: an answer to the parent at once, or a request to the children and, as the next, the answer to the parent; begun within one where the downlock is held
abbrev pub are_blocks : Bool → List TemplateName → Bool
are_blocks false [] = true
are_blocks false (ImmUp ∷ ts) = are_blocks false ts
are_blocks false (RqDownDown ∷ ts) = are_blocks true ts
are_blocks true (RsUpUp ∷ ts) = are_blocks false ts
are_blocks _ _ = false
