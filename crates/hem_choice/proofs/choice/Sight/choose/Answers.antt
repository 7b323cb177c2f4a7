use Rattle.std.proofs.Common.{ap, sym, ◌∙◌, Option}
use Rattle.hem_syntax.specs.declared.rule.Rule.{Rule}
use Rattle.hem_abstract.specs.First.{first_with}
use Rattle.hem_abstract.proofs.Turns.{ends-here, goes-on}
use Rattle.hem_choice.specs.Choices.{Choice, choice_of}
use Rattle.hem_choice.proofs.choice.Sight.choose.Goals as goal

pub returns-in-Some : goal.returns-in-Some
returns-in-Some c =
    let give : Rule → Option Choice = choice_of c.args.p.now c.args.kind c.args.local.now c.args.self.now in
    ends-here give c.rules-rules.result.now c.loop-rule.rule-index c.rule-item.result c.in-Some.choice c.loop-rule-test.true (sym c.in-Some.is ∙ c.choose_of.ensures ∙ ap give c.rule-item.is) c.loop-rule.invariant
    ∙ ap (first_with give) c.rules-rules.ensures

pub loop-rule-preserved : goal.loop-rule-preserved
loop-rule-preserved c =
    let give : Rule → Option Choice = choice_of c.args.p.now c.args.kind c.args.local.now c.args.self.now in
    goes-on give c.rules-rules.result.now c.loop-rule.rule-index c.rule-item.result c.loop-rule-test.true (sym c.in_default.is ∙ c.choose_of.ensures ∙ ap give c.rule-item.is) c.loop-rule.invariant
