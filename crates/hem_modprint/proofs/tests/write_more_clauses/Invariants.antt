use Rattle.std.proofs.Common.{◌≡◌, ◌++◌, drop}
use Rattle.std.specs.Prelude.{flat_map, codes}
use Rattle.std.specs.List.{list_all}
use Rattle.hem_modprint.specs.ModulesText.{tests_text}
use Rattle.hem_modprint.specs.ReadsBack.{fits_clause}
use Rattle.hem_modprint.proofs.tests.write_more_clauses.Given as goal

-- the text so far and what is left make the whole text, and the numbers of all are such as those of what is left are
abbrev pub invariant-loop-clause : goal.invariant-loop-clause
invariant-loop-clause l = record {
  text : l.output ++ flat_map (λ c. codes "," ++ tests_text l.m c.atoms) (drop l.clause-index l.clauses) ≡ l.fn.output ++ flat_map (λ c. codes "," ++ tests_text l.m c.atoms) l.clauses;
  fits : list_all (fits_clause) (drop l.clause-index l.clauses) ≡ list_all (fits_clause) l.clauses;
}
