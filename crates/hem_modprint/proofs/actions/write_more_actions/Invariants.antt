use Rattle.std.proofs.Common.{◌≡◌, ◌++◌, drop}
use Rattle.std.specs.Prelude.{flat_map, codes}
use Rattle.std.specs.List.{list_all}
use Rattle.hem_modprint.specs.ModulesText.{action_text}
use Rattle.hem_modprint.specs.ReadsBack.{fits_action}
use Rattle.hem_modprint.proofs.actions.write_more_actions.Given as goal

-- the text so far and what is left make the whole text, and the numbers of all are such as those of what is left are
abbrev pub invariant-loop-action : goal.invariant-loop-action
invariant-loop-action l = record {
  text : l.output ++ flat_map (λ a. codes "," ++ action_text l.m a) (drop l.action-index l.actions) ≡ l.fn.output ++ flat_map (λ a. codes "," ++ action_text l.m a) l.actions;
  fits : list_all (fits_action) (drop l.action-index l.actions) ≡ list_all (fits_action) l.actions;
}
