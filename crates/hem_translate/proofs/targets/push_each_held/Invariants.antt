use Rattle.std.proofs.Common.{◌≡◌, ◌++◌, ◌∷◌, [], map, drop}
use Rattle.hem_emit.specs.Clauses.{held_for}
use Rattle.hem_translate.specs.Targets.{target_at}
use Rattle.hem_translate.proofs.targets.push_each_held.Given as goal

-- the targets so far and those that are left are all
abbrev pub invariant-loop-kid : goal.invariant-loop-kid
invariant-loop-kid l = l.targets ++ map (target_at l.l) (map (λ k. (k, held_for l.site l.side k ∷ [])) (drop l.kid-index l.kids)) ≡ l.fn.targets ++ map (target_at l.l) (map (λ k. (k, held_for l.site l.side k ∷ [])) l.kids)
