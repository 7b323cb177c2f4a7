use Rattle.std.proofs.Common.{sym}
use Rattle.hem_modprint.proofs.Words.{rule_word}
use Rattle.hem_modprint.proofs.rules.write_rules.Goals as goal

pub write_rule-requires : goal.write_rule-requires
write_rule-requires c = rule_word c.args.rules.now c.loop-rule.rule-index c.rule-item.result c.requires c.loop-rule-test.true (sym c.rule-item.is)
