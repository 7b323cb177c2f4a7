use Rattle.std.proofs.Common.{◌≡◌, ◌++◌, drop}
use Rattle.std.specs.Prelude.{flat_map, codes}
use Rattle.std.specs.List.{list_all}
use Rattle.hem_modprint.specs.ModulesText.{test_text}
use Rattle.hem_modprint.specs.ReadsBack.{fits_test}
use Rattle.hem_modprint.proofs.tests.write_more_conditions.Given as goal

-- the text so far and what is left make the whole text, and the numbers of all are such as those of what is left are
abbrev pub invariant-loop-atom : goal.invariant-loop-atom
invariant-loop-atom l = record {
  text : l.output ++ flat_map (λ a. codes " and " ++ test_text l.m a) (drop l.atom-index l.atoms) ≡ l.fn.output ++ flat_map (λ a. codes " and " ++ test_text l.m a) l.atoms;
  fits : list_all (fits_test) (drop l.atom-index l.atoms) ≡ list_all (fits_test) l.atoms;
}
