use Rattle.std.proofs.Common.{◌≡◌, ◌++◌, map, drop}
use Rattle.std.specs.List.{flat_map}
use Rattle.hem_translate.specs.Askers.{asker_is}
use Rattle.hem_emit.specs.Clauses.{atom_clauses}
use Rattle.hem_translate.specs.ByPlace.{clause_at}
use Rattle.hem_translate.proofs.clauses.push_each_atom.Given as goal

-- the clauses so far and those of the conditions that are left are all
abbrev pub invariant-loop-atom : goal.invariant-loop-atom
invariant-loop-atom l = l.clauses ++ flat_map (λ a. map (clause_at l.l) (atom_clauses l.site (asker_is l.who) a)) (drop l.atom-index l.guard) ≡ l.fn.clauses ++ flat_map (λ a. map (clause_at l.l) (atom_clauses l.site (asker_is l.who) a)) l.guard
