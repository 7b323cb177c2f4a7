-- A protocol is stable where no list of its rules has a breach.
use Rattle.std.proofs.Common.{◌≡◌, ap, ◌∙◌, subst, Bool, true, false, cond, not, ◌||◌, List, [], ◌∷◌, refl, Option, None, Some}
use Rattle.std.specs.Prelude.{◌==◌, find, is_none}
use Rattle.hem_base.specs.declared.ids.Kind.{Kind}
use Rattle.hem_base.specs.declared.ids.Kind.TheVariants.{Root, Mid, Leaf}
use Rattle.hem_base.specs.declared.ids.RuleId.{RuleId}
use Rattle.hem_syntax.specs.declared.rule.Rule.{Rule}
use Rattle.hem_syntax.specs.Protocol.{Protocol, rule_named}
use Rattle.hem_template.specs.Template.{template_of}
use Rattle.hem_template.specs.Waiting.{is_upward_template}
use Rattle.hem_abstract.specs.Stable.{Breach, first_unstable, IsStable}
use Rattle.hem_orderly.specs.Breaches.{have_no_breach}
use Rattle.hem_rows.proofs.Choices.{both}

-- an upward request that passes the test has no breach
none_there : (upward : Bool) (breach : Option Breach) → (not upward || is_none breach) ≡ true → upward ≡ true → breach ≡ None
none_there true None is up = refl
none_there true (Some breach) is up = cc
none_there false breach is up = cc

-- a rule that is found in a list without a breach
found_stable : (p : Protocol) (kind : Kind) (name : RuleId) (rules : List Rule) (rule : Rule) → have_no_breach p kind rules ≡ true → find (λ r. r.name.0 == name.0) rules ≡ Some rule → is_upward_template (template_of p kind rule) ≡ true → first_unstable p kind rule ≡ None
found_stable p kind name [] rule all is up = absurd (let bad : None ≡ Some rule = is in cc)
found_stable p kind name (r ∷ rules) rule all is up =
    let parts = both (not (is_upward_template (template_of p kind r)) || is_none (first_unstable p kind r)) (have_no_breach p kind rules) all in
    by_name (r.name.0 == name.0) is (λ up. none_there (is_upward_template (template_of p kind r)) (first_unstable p kind r) parts.0 up) (λ rest. found_stable p kind name rules rule parts.1 rest up)
  where
    by_name : (b : Bool) → cond b (Some r) (find (λ r. r.name.0 == name.0) rules) ≡ Some rule → (is_upward_template (template_of p kind r) ≡ true → first_unstable p kind r ≡ None) → (find (λ r. r.name.0 == name.0) rules ≡ Some rule → first_unstable p kind rule ≡ None) → first_unstable p kind rule ≡ None
    by_name true is here rest = let same : r ≡ rule = cc in subst (λ r. first_unstable p kind r ≡ None) same (here (ap (λ r. is_upward_template (template_of p kind r)) same ∙ up))
    by_name false is here rest = rest is

-- so each upward request that a firing can name has none
pub from_lists : (p : Protocol) → have_no_breach p Root p.root.rules ≡ true → have_no_breach p Mid p.mid.rules ≡ true → have_no_breach p Leaf p.leaf.rules ≡ true → IsStable p
from_lists p root mid leaf = record { whole = by_kind }
  where
    by_kind : (kind : Kind) (name : RuleId) (rule : Rule) → rule_named p kind name ≡ Some rule → is_upward_template (template_of p kind rule) ≡ true → first_unstable p kind rule ≡ None
    by_kind Root name rule is up = found_stable p Root name p.root.rules rule root is up
    by_kind Mid name rule is up = found_stable p Mid name p.mid.rules rule mid is up
    by_kind Leaf name rule is up = found_stable p Leaf name p.leaf.rules rule leaf is up
