use Rattle.std.proofs.Common.{◌≡◌, ◌++◌, ◌∷◌, [], map, drop}
use Rattle.std.specs.List.{flat_map}
use Rattle.hem_emit.specs.Clauses.{entry_in}
use Rattle.hem_translate.specs.Targets.{target_at}
use Rattle.hem_translate.proofs.targets.push_each.Given as goal

-- the targets so far and those that are left are all
abbrev pub invariant-loop-kid : goal.invariant-loop-kid
invariant-loop-kid l = l.targets ++ flat_map (λ k. map (target_at l.l) (map (λ test. (k, test ∷ [])) (entry_in l.site l.set k))) (drop l.kid-index l.kids) ≡ l.fn.targets ++ flat_map (λ k. map (target_at l.l) (map (λ test. (k, test ∷ [])) (entry_in l.site l.set k))) l.kids
