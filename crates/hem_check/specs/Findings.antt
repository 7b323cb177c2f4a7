-- What is told of a broken rule, without the protocol.
use Rattle.std.specs.Prelude.{Option, Some, option_map}
use Rattle.hem_base.specs.declared.ids.Kind.{Kind}
use Rattle.hem_base.specs.declared.ids.RuleId.{RuleId}
use Rattle.hem_syntax.specs.declared.rule.Rule.{Rule}
use Rattle.hem_syntax.specs.Protocol.{Protocol}
use Rattle.hem_template.specs.declared.clause.Clause.TheVariants.{Stable}
use Rattle.hem_abstract.specs.declared.breach.Breach.{Breach as Told}
use Rattle.hem_abstract.specs.Named.{named}
use Rattle.hem_check.specs.Discipline.{Broken, failure_of}
use Rattle.hem_check.specs.declared.first.Finding.{Finding}

-- a rule of a kind that breaks a clause
abbrev pub broken_rule : Protocol → Kind → Rule → Option Broken
broken_rule p kind rule = option_map (λ failure. record { kind = kind; rule = rule.name; failure = failure }) (failure_of p kind rule)

-- a broken rule, with the breach by names
abbrev pub finding_of : Broken → Finding
finding_of broken =
    record { kind = broken.kind; rule = broken.rule; clause = broken.failure.clause; breach = option_map (named broken.rule) broken.failure.breach }

-- a rule of that name that isn't stable
abbrev pub unstable_finding : Kind → RuleId → Told → Finding
unstable_finding kind name breach = record { kind = kind; rule = name; clause = Stable; breach = Some breach }
