use Rattle.std.proofs.Common.{◌≡◌, ◌++◌, map, drop}
use Rattle.hem_emit.specs.Clauses.{held_for}
use Rattle.hem_translate.specs.ByPlace.{test_at}
use Rattle.hem_translate.proofs.clauses.held_for_kid.Given as goal

-- the tests so far and those of the children that are left are all
abbrev pub invariant-loop-kid : goal.invariant-loop-kid
invariant-loop-kid l = l.atoms ++ map (test_at l.l) (map (held_for l.site l.side) (drop l.kid-index l.kids)) ≡ map (test_at l.l) (map (held_for l.site l.side) l.kids)
