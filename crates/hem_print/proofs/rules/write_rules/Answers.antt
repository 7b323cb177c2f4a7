use Rattle.std.proofs.Common.{rules}
use Rattle.hem_syntax.specs.Protocol.{part}
use Rattle.hem_print.specs.Canonical.{rule_line}
use Rattle.hem_print.proofs.Led.{line_more}
use Rattle.hem_print.proofs.rules.write_rules.Goals as goal

pub loop-rule-preserved : goal.loop-rule-preserved
loop-rule-preserved c =
    line_more (rule_line c.args.p.now (part c.args.p.now c.args.kind)) _ c.loop-rule.output c.write_rule.new.output c.args.rules.now c.loop-rule.rule-index c.rule-item.result c.loop-rule-test.true (search rules) c.in_ok-write_rule.ensures c.loop-rule.invariant
