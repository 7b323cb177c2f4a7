use Rattle.std.proofs.Common.{◌≡◌, ◌++◌, drop}
use Rattle.std.specs.List.{flat_map}
use Rattle.hem_report.specs.AcceptedText.{rule_line}
use Rattle.hem_report.proofs.accepted.write_rule_lines.Given as goal

-- the text so far and the rules that are left make the whole text
abbrev pub invariant-loop-rule : goal.invariant-loop-rule
invariant-loop-rule l = l.output ++ flat_map (rule_line l.p l.kind) (drop l.rule-index l.rules) ≡ l.fn.output ++ flat_map (rule_line l.p l.kind) l.rules
