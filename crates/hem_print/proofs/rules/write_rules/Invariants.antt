use Rattle.std.proofs.Common.{◌≡◌, ◌++◌, map, drop}
use Rattle.hem_syntax.specs.Protocol.{part}
use Rattle.hem_print.specs.Canonical.{lines_text, rule_line}
use Rattle.hem_print.proofs.rules.write_rules.Given as goal

-- the text so far and the rules that are left make the whole text
abbrev pub invariant-loop-rule : goal.invariant-loop-rule
invariant-loop-rule l = l.output ++ lines_text (map (rule_line l.p (part l.p l.kind)) (drop l.rule-index l.rules)) ≡ l.fn.output ++ lines_text (map (rule_line l.p (part l.p l.kind)) l.rules)
