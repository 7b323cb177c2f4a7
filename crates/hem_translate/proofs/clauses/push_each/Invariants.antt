use Rattle.std.proofs.Common.{◌≡◌, ◌++◌, map, drop}
use Rattle.hem_emit.specs.Clauses.{entry_in}
use Rattle.hem_translate.specs.ByPlace.{clause_at}
use Rattle.hem_translate.proofs.clauses.push_each.Given as goal

-- the clauses so far and those of the children that are left are all
abbrev pub invariant-loop-kid : goal.invariant-loop-kid
invariant-loop-kid l = l.clauses ++ map (clause_at l.l) (map (entry_in l.site l.set) (drop l.kid-index l.kids)) ≡ l.fn.clauses ++ map (clause_at l.l) (map (entry_in l.site l.set) l.kids)
