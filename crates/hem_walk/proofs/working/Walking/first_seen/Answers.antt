use Rattle.std.proofs.Common.{sym, ap, ◌∙◌, subst}
use Rattle.std.specs.Prelude.{find}
use Rattle.hem_walk.specs.Walk.{firings_of_rule, is_ready}
use Rattle.hem_syntax.specs.declared.rule.Rule.{Rule}
use Rattle.hem_walk.specs.Firsts.{IsRuleOf}
use Rattle.hem_walk.proofs.Begun.{rule_itself}
use Rattle.hem_walk.proofs.Finding.{flat_next, flat_here}
use Rattle.hem_walk.proofs.Tried.{rules_first}
use Rattle.hem_walk.proofs.working.Walking.first_seen.Goals as goal

pub returns-in-Some : goal.returns-in-Some
returns-in-Some c =
    let test = is_ready c.args.p.now c.args.tree.now c.args.work.now.self_count c.args.self.now.journal c.args.self.now.system in
    let each = firings_of_rule c.args.tree.now c.args.line.0 c.args.object.0 in
    let found = ap (λ rule. find test (each rule)) (sym c.rule-item.is) ∙ sym c.first_of_rule.ensures ∙ c.in-Some.is in
    let here = flat_here test each c.rules-rules.result.now c.loop-rule.rule-index c.rule-item.result c.in-Some.firing c.loop-rule-test.true found in
    sym (rules_first test c.args.p.now c.args.tree.now c.args.line.0 c.args.object.0 c.kind-kind.result c.rules-rules.result.now _ c.kind-kind.ensures c.rules-rules.ensures (sym c.loop-rule.invariant ∙ here))

pub loop-rule-preserved : goal.loop-rule-preserved
loop-rule-preserved c =
    let test = is_ready c.args.p.now c.args.tree.now c.args.work.now.self_count c.args.self.now.journal c.args.self.now.system in
    let each = firings_of_rule c.args.tree.now c.args.line.0 c.args.object.0 in
    let none = ap (λ rule. find test (each rule)) (sym c.rule-item.is) ∙ sym c.first_of_rule.ensures ∙ c.in_default.is in
    flat_next test each c.rules-rules.result.now c.loop-rule.rule-index c.rule-item.result c.loop-rule-test.true none
    ∙ c.loop-rule.invariant

pub first_of_rule-requires-clause-rule : goal.first_of_rule-requires-clause-rule
first_of_rule-requires-clause-rule c =
    subst (λ (r : Rule). IsRuleOf c.args.p.now c.args.tree.now c.args.object.0 r) (sym c.rule-item.is)
    (rule_itself c.args.p.now c.args.tree.now c.args.object.0 c.kind-kind.result c.rules-rules.result.now c.loop-rule.rule-index c.rule-item.result c.part-part.ensures.lawful c.kind-kind.ensures c.rules-rules.ensures c.loop-rule-test.true)
