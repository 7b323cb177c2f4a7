use Rattle.std.proofs.Common.{ap, sym, ◌∙◌, Option}
use Rattle.std.specs.Prelude.{option_map}
use Rattle.hem_syntax.specs.declared.rule.Rule.{Rule}
use Rattle.hem_abstract.specs.First.{first_with}
use Rattle.hem_abstract.proofs.Turns.{ends-here, ends-without}
use Rattle.hem_check.specs.declared.first.Finding.{Finding}
use Rattle.hem_check.specs.Findings.{finding_of, broken_rule}
use Rattle.hem_check.proofs.FirstFound.{in-kind}
use Rattle.hem_check.proofs.first.first_in.Goals as goal

pub returns-in-Some : goal.returns-in-Some
returns-in-Some c =
    let give : Rule → Option Finding = (λ rule. option_map finding_of (broken_rule c.args.p.now c.args.kind rule)) in
    ends-here give c.rules-rules.result.now c.loop-rule.rule-index c.rule-item.result c.in-Some.found c.loop-rule-test.true (sym c.in-Some.is ∙ c.broken_rule.ensures ∙ ap give c.rule-item.is) c.loop-rule.invariant
    ∙ ap (first_with give) c.rules-rules.ensures
    ∙ sym (in-kind c.args.p.now c.args.kind)

pub returns : goal.returns
returns c =
    let give : Rule → Option Finding = (λ rule. option_map finding_of (broken_rule c.args.p.now c.args.kind rule)) in
    ends-without give c.rules-rules.result.now c.loop-rule.rule-index c.loop-rule-test.false c.loop-rule.invariant
    ∙ ap (first_with give) c.rules-rules.ensures
    ∙ sym (in-kind c.args.p.now c.args.kind)
