use Rattle.std.proofs.Common.{◌≡◌, ◌++◌, ◌∷◌, [], map, drop}
use Rattle.hem_module.specs.Module.{put, number}
use Rattle.hem_emit.specs.Names.{entry}
use Rattle.hem_emit.specs.Clauses.{held_for}
use Rattle.hem_emit.specs.Actions.{where_holds}
use Rattle.hem_translate.specs.ByPlace.{action_at}
use Rattle.hem_translate.proofs.actions.push_set_held.Given as goal

-- the actions so far and those of the children that are left are all
abbrev pub invariant-loop-kid : goal.invariant-loop-kid
invariant-loop-kid l = l.actions ++ map (action_at l.l) (map (λ k. where_holds (held_for l.site l.side k ∷ []) (put (entry k.1) (number l.status.0))) (drop l.kid-index l.kids)) ≡ l.fn.actions ++ map (action_at l.l) (map (λ k. where_holds (held_for l.site l.side k ∷ []) (put (entry k.1) (number l.status.0))) l.kids)
