-- A rule that takes a request of a child, for one child.
use Rattle.std.specs.Prelude.{ℕ, Some}
use Rattle.hem_syntax.specs.declared.rule.Rule.{Rule}
use Rattle.hem_syntax.specs.Protocol.{Protocol}
use Rattle.hem_module.specs.declared.rules.ModRule.{ModRule}
use Rattle.hem_emit.specs.Place.{Place}
use Rattle.hem_emit.specs.Emit.{rule_at}
use Rattle.hem_translate.specs.ByPlace.{Places, rule_by_places}

-- the rule for a child, given as its place and number
unfoldable pub child_rule : Places → Protocol → Place → Rule → ℕ × ℕ → ModRule
child_rule l p at rule k = rule_by_places l (rule_at p at rule (Some k.0))
