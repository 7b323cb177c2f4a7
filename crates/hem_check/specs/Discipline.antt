-- The discipline of protocols: each rule meets all eight clauses.
use Rattle.std.specs.Prelude.{◌≡◌, Bool, true, false, List, ◌++◌, Option, None, Some, Ok, Err, slice_get, filter_map, option_map, is_none}
use Rattle.std.specs.List.{list_all}
use Rattle.hem_base.specs.declared.ids.Kind.{Kind}
use Rattle.hem_base.specs.declared.ids.Kind.TheVariants.{Root, Mid, Leaf}
use Rattle.hem_base.specs.declared.ids.RuleId.{RuleId}
use Rattle.hem_syntax.specs.declared.rule.Rule.{Rule}
use Rattle.hem_template.specs.declared.clause.Clause.{Clause}
use Rattle.hem_template.specs.declared.clause.Clause.TheVariants.{Stable}
use Rattle.hem_syntax.specs.Protocol.{Protocol, part}
use Rattle.hem_template.specs.Template.{template_of}
use Rattle.hem_template.specs.Waiting.{is_upward_template}
use Rattle.hem_abstract.specs.Stable.{Breach, first_unstable}

-- a clause that a rule breaks; for stability the breach that shows it
pub record Failure : Type 0 where
  pub clause : Clause
  pub breach : Option Breach

-- the first clause that a rule breaks: of the first seven the one for which it has no template; and stability, where it is an upward request with a breach
abbrev pub failure_of : Protocol → Kind → Rule → Option Failure
failure_of p kind rule =
    elim (template_of p kind rule) [
      | Err clause ↦ Some (record { clause = clause; breach = None })
      | Ok t ↦
          elim (is_upward_template (Ok t)) [
            | true ↦ option_map (λ breach. record { clause = Stable; breach = Some breach }) (first_unstable p kind rule)
            | false ↦ None
          ]
    ]

-- whether a rule meets all eight clauses
abbrev pub meets_all : Protocol → Kind → Rule → Bool
meets_all p kind rule = is_none (failure_of p kind rule)

-- every rule of every kind meets all eight clauses
pub record IsDisciplined (p : Protocol) : Type 0 where
  pub whole : (kind : Kind) → list_all (meets_all p kind) (part p kind).rules ≡ true

-- a rule that breaks the discipline, with the first clause that it breaks
pub record Broken : Type 0 where
  pub kind : Kind
  pub rule : RuleId
  pub failure : Failure

-- the rules of a kind that break a clause, in text order
abbrev pub broken_in : Protocol → Kind → List Broken
broken_in p kind =
    filter_map (λ rule. option_map (λ failure. record { kind = kind; rule = rule.name; failure = failure }) (failure_of p kind rule)) (part p kind).rules

-- the first rule in text order that breaks a clause
abbrev pub first_broken : Protocol → Option Broken
first_broken p = slice_get (broken_in p Root ++ broken_in p Mid ++ broken_in p Leaf) 0
