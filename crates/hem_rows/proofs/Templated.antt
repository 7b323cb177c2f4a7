-- A protocol whose rules have templates, list by list.
use Rattle.std.proofs.Common.{◌≡◌, ap, sym, ◌∙◌, Bool, true, false, cond, List, [], ◌∷◌, map, Some}
use Rattle.std.specs.Prelude.{◌==◌, find, Ok}
use Rattle.hem_base.specs.declared.ids.Kind.{Kind}
use Rattle.hem_base.specs.declared.ids.Kind.TheVariants.{Root, Mid, Leaf}
use Rattle.hem_base.specs.declared.ids.RuleId.{RuleId}
use Rattle.hem_syntax.specs.declared.rule.Rule.{Rule}
use Rattle.hem_template.specs.declared.template_name.TemplateName.{TemplateName}
use Rattle.hem_syntax.specs.Protocol.{Protocol, rule_named}
use Rattle.hem_template.specs.Template.{template_of}
use Rattle.hem_rows.specs.Rows.{AllHaveTemplates}

-- a rule that is found in a list whose rules have templates has one
found-template : (p : Protocol) (kind : Kind) (name : RuleId) (rules : List Rule) (templates : List TemplateName) (rule : Rule) → map (template_of p kind) rules ≡ map Ok templates → find (λ r. r.name.0 == name.0) rules ≡ Some rule → (t : TemplateName) × (template_of p kind rule ≡ Ok t)
found-template p kind name [] templates rule all is = cc
found-template p kind name (r ∷ rules) [] rule all is = cc
found-template p kind name (r ∷ rules) (t ∷ templates) rule all is =
    let head : template_of p kind r ≡ Ok t = cc in
    let tail : map (template_of p kind) rules ≡ map Ok templates = cc in
    by_name (r.name.0 == name.0) is head (λ rest. found-template p kind name rules templates rule tail rest)
  where
    by_name : (b : Bool) → cond b (Some r) (find (λ r. r.name.0 == name.0) rules) ≡ Some rule → template_of p kind r ≡ Ok t → (find (λ r. r.name.0 == name.0) rules ≡ Some rule → (t : TemplateName) × (template_of p kind rule ≡ Ok t)) → (t : TemplateName) × (template_of p kind rule ≡ Ok t)
    by_name true is head rest = let same : r ≡ rule = cc in (t, ap (template_of p kind) (sym same) ∙ head)
    by_name false is head rest = rest is

-- so each rule that a firing can name has one
pub from_lists : (p : Protocol) (root mid leaf : List TemplateName) → map (template_of p Root) p.root.rules ≡ map Ok root → map (template_of p Mid) p.mid.rules ≡ map Ok mid → map (template_of p Leaf) p.leaf.rules ≡ map Ok leaf → AllHaveTemplates p
from_lists p root mid leaf at_root at_mid at_leaf = record { each = by_kind }
  where
    by_kind : (kind : Kind) (name : RuleId) (rule : Rule) → rule_named p kind name ≡ Some rule → (t : TemplateName) × (template_of p kind rule ≡ Ok t)
    by_kind Root name rule is = found-template p Root name p.root.rules root rule at_root is
    by_kind Mid name rule is = found-template p Mid name p.mid.rules mid rule at_mid is
    by_kind Leaf name rule is = found-template p Leaf name p.leaf.rules leaf rule at_leaf is
