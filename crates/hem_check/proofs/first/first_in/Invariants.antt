use Rattle.std.proofs.Common.{◌≡◌, drop}
use Rattle.std.specs.Prelude.{option_map}
use Rattle.hem_abstract.specs.First.{first_with}
use Rattle.hem_check.specs.Findings.{finding_of, broken_rule}
use Rattle.hem_check.proofs.first.first_in.Given as goal

-- the first that breaks a clause is one of the rules that are left
abbrev pub invariant-loop-rule : goal.invariant-loop-rule
invariant-loop-rule l = first_with (λ rule. option_map finding_of (broken_rule l.p l.kind rule)) (drop l.rule-index l.rules) ≡ first_with (λ rule. option_map finding_of (broken_rule l.p l.kind rule)) l.rules
