use Rattle.std.proofs.Common.{◌≡◌, ℕ, ◌-◌, false, length, drop, get_or}
use Rattle.hem_template.specs.Template.{template_of}
use Rattle.hem_template.specs.Waiting.{is_upward_template}
use Rattle.hem_regroup.proofs.UpwardTable.{of_first}
use Rattle.hem_regroup.proofs.upward.upward_names.Given as goal

abbrev pub invariant-loop-back : goal.invariant-loop-back
invariant-loop-back l = record {
  size : length l.names.items ≡ length l.p.rule_names;
  names : (n : ℕ) → get_or l.names.items n false ≡ of_first (λ rule. is_upward_template (template_of l.p l.kind rule)) (drop (length l.rules - l.back) l.rules) n;
}
