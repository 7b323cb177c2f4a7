use Rattle.std.proofs.Common.{◌≡◌, ◌++◌, ◌∷◌, map, drop, Some}
use Rattle.std.specs.List.{flat_map}
use Rattle.hem_emit.specs.Place.{others_at}
use Rattle.hem_emit.specs.Clauses.{entry_in, not_held_for}
use Rattle.hem_translate.specs.ByPlace.{clause_at}
use Rattle.hem_translate.proofs.clauses.push_others.Given as goal

-- the clauses so far and those of the children that are left are all
abbrev pub invariant-loop-kid : goal.invariant-loop-kid
invariant-loop-kid l = l.clauses ++ map (clause_at l.l) (map (λ k. not_held_for l.site l.side k ∷ flat_map (entry_in l.site l.set) (others_at l.site (Some k.0))) (drop l.kid-index l.kids)) ≡ l.fn.clauses ++ map (clause_at l.l) (map (λ k. not_held_for l.site l.side k ∷ flat_map (entry_in l.site l.set) (others_at l.site (Some k.0))) l.kids)
