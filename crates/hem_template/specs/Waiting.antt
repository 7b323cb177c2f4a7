-- Templates of rules that wait for an answer from above, and of those that work downward meanwhile.
use Rattle.std.specs.Prelude.{Bool, true, false, Option, None, Some, Result, Ok, Err}
use Rattle.hem_template.specs.declared.template_name.TemplateName.{TemplateName}
use Rattle.hem_template.specs.declared.template_name.TemplateName.TheVariants.{ImmUp, RqUp, RqUpSelf, RqDownDown, RsUpUp}
use Rattle.hem_template.specs.declared.clause.Clause.{Clause}

-- whether a template sends a request up and waits for the answer
abbrev pub is_upward_template : Result TemplateName Clause → Bool
is_upward_template (Ok RqUp) = true
is_upward_template (Ok RqUpSelf) = true
is_upward_template _ = false

-- whether a template answers a parent's request, passes it on, or answers it after the children did
abbrev pub is_downward_template : Result TemplateName Clause → Bool
is_downward_template (Ok ImmUp) = true
is_downward_template (Ok RqDownDown) = true
is_downward_template (Ok RsUpUp) = true
is_downward_template _ = false

-- the template, where there is one
abbrev pub template_if : Result TemplateName Clause → Option TemplateName
template_if (Ok t) = Some t
template_if (Err c) = None
