use Rattle.std.proofs.Common.{◌≡◌, ◌++◌, map, drop}
use Rattle.hem_module.specs.Module.{equals}
use Rattle.hem_emit.specs.Names.{awaits}
use Rattle.hem_translate.specs.ByPlace.{test_at}
use Rattle.hem_translate.proofs.clauses.awaited.Given as goal

-- the tests so far and those of the children that are left are all
abbrev pub invariant-loop-kid : goal.invariant-loop-kid
invariant-loop-kid l = l.atoms ++ map (test_at l.l) (map (λ k. equals (awaits k.1) 1) (drop l.kid-index l.kids)) ≡ map (test_at l.l) (map (λ k. equals (awaits k.1) 1) l.kids)
