use Rattle.std.proofs.Common.{◌≡◌, ◌++◌, drop}
use Rattle.std.specs.Prelude.{flat_map}
use Rattle.std.specs.List.{list_all}
use Rattle.hem_modprint.specs.ModulesText.{rule_text}
use Rattle.hem_modprint.specs.ReadsBack.{fits_rule}
use Rattle.hem_modprint.proofs.rules.write_rules.Given as goal

-- the text so far and what is left make the whole text, and the numbers of all are such as those of what is left are
abbrev pub invariant-loop-rule : goal.invariant-loop-rule
invariant-loop-rule l = record {
  text : l.output ++ flat_map (rule_text l.m) (drop l.rule-index l.rules) ≡ l.fn.output ++ flat_map (rule_text l.m) l.rules;
  fits : list_all (fits_rule) (drop l.rule-index l.rules) ≡ list_all (fits_rule) l.rules;
}
