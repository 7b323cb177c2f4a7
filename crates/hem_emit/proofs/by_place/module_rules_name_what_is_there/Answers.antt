use Rattle.hem_emit.proofs.Here.{rule_there}
use Rattle.hem_emit.proofs.Rules.{all_known}
use Rattle.hem_emit.proofs.by_place.module_rules_name_what_is_there.Goals as goal

pub returns : goal.returns
returns c = record { rule = rule_there; all = all_known }
