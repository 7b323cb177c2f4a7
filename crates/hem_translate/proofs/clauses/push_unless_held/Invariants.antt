use Rattle.std.proofs.Common.{◌≡◌, ◌++◌, ◌∷◌, map, drop}
use Rattle.hem_emit.specs.Clauses.{entry_in, held_for}
use Rattle.hem_translate.specs.ByPlace.{clause_at}
use Rattle.hem_translate.proofs.clauses.push_unless_held.Given as goal

-- the clauses so far and those of the children that are left are all
abbrev pub invariant-loop-kid : goal.invariant-loop-kid
invariant-loop-kid l = l.clauses ++ map (clause_at l.l) (map (λ k. held_for l.site l.side k ∷ entry_in l.site l.set k) (drop l.kid-index l.kids)) ≡ l.fn.clauses ++ map (clause_at l.l) (map (λ k. held_for l.site l.side k ∷ entry_in l.site l.set k) l.kids)
