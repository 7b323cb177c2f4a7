-- The text of an accepted protocol.
use Rattle.std.specs.Prelude.{[], ◌∷◌, ◌++◌, flat_map, Result, Ok, Err, codes}
use Rattle.hem_base.specs.declared.ids.RuleId.{RuleId}
use Rattle.hem_base.specs.declared.ids.Kind.{Kind}
use Rattle.hem_base.specs.declared.ids.Kind.TheVariants.{Root, Mid, Leaf}
use Rattle.hem_syntax.specs.declared.rule.Rule.{Rule}
use Rattle.hem_syntax.specs.Protocol.{Protocol, Text, part}
use Rattle.hem_template.specs.declared.clause.Clause.{Clause}
use Rattle.hem_template.specs.declared.template_name.TemplateName.{TemplateName}
use Rattle.hem_template.specs.declared.template_name.TemplateName.TheVariants.{ImmSelf, ImmDown, ImmUp, RqUp, RqUpSelf, RqUpDown, RqDownSelf, RqDownDown, RsDown, RsDownSelf, RsDownRqDown, RsUpDown, RsUpUp, RsUpSelf}
use Rattle.hem_template.specs.Template.{template_of}
use Rattle.hem_report.specs.Texts.{rule_text}
use Rattle.hem_report.specs.LocalText.{kind_text}

-- the word for a template
abbrev pub template_text : TemplateName → Text
template_text ImmSelf = codes "imm_self"
template_text ImmDown = codes "imm_down"
template_text ImmUp = codes "imm_up"
template_text RqUp = codes "rq_up"
template_text RqUpSelf = codes "rq_up_self"
template_text RqUpDown = codes "rq_up_down"
template_text RqDownSelf = codes "rq_down_self"
template_text RqDownDown = codes "rq_down_down"
template_text RsDown = codes "rs_down"
template_text RsDownSelf = codes "rs_down_self"
template_text RsDownRqDown = codes "rs_down_rq_down"
template_text RsUpDown = codes "rs_up_down"
template_text RsUpUp = codes "rs_up_up"
template_text RsUpSelf = codes "rs_up_self"

-- the word for the template that a rule has: in an accepted protocol each rule has one
abbrev pub fitted_text : Result TemplateName Clause → Text
fitted_text (Ok t) = template_text t
fitted_text (Err _) = []

-- a rule of a kind: the kind and the rule's name
abbrev pub kind_rule_text : Protocol → Kind → RuleId → Text
kind_rule_text p kind rule = kind_text kind ++ codes " " ++ rule_text p rule

-- the line of a rule: kind, name and template
abbrev pub rule_line : Protocol → Kind → Rule → Text
rule_line p kind rule = kind_rule_text p kind rule.name ++ codes " " ++ fitted_text (template_of p kind rule) ++ codes "\n"

-- the lines of a kind's rules, in text order
abbrev pub rule_lines : Protocol → Kind → Text
rule_lines p kind = flat_map (rule_line p kind) (part p kind).rules

-- the text of an accepted protocol: its name, and the template of each rule in text order
abbrev pub accepted_text : Protocol → Text
accepted_text p = codes "accepted " ++ p.name ++ codes "\n" ++ flat_map (rule_lines p) (Root ∷ Mid ∷ Leaf ∷ [])
