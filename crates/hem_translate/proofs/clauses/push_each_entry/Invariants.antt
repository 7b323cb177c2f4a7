use Rattle.std.proofs.Common.{◌≡◌, ◌++◌, map, drop}
use Rattle.std.specs.List.{flat_map}
use Rattle.hem_emit.specs.Clauses.{entry_in}
use Rattle.hem_translate.specs.ByPlace.{test_at}
use Rattle.hem_translate.proofs.clauses.push_each_entry.Given as goal

-- the tests so far and those of the children that are left are all
abbrev pub invariant-loop-kid : goal.invariant-loop-kid
invariant-loop-kid l = l.atoms ++ flat_map (λ k. map (test_at l.l) (entry_in l.site l.set k)) (drop l.kid-index l.kids) ≡ l.fn.atoms ++ flat_map (λ k. map (test_at l.l) (entry_in l.site l.set k)) l.kids
