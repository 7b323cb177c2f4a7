use Rattle.std.proofs.Common.{◌≡◌, ◌++◌, map, drop}
use Rattle.hem_emit.specs.Actions.{not_awaited}
use Rattle.hem_translate.specs.ByPlace.{test_at}
use Rattle.hem_translate.proofs.amounts.push_not_awaited.Given as goal

-- the tests so far and those of the children that are left are all
abbrev pub invariant-loop-kid : goal.invariant-loop-kid
invariant-loop-kid l = l.atoms ++ map (test_at l.l) (map not_awaited (drop l.kid-index l.kids)) ≡ l.fn.atoms ++ map (test_at l.l) (map not_awaited l.kids)
