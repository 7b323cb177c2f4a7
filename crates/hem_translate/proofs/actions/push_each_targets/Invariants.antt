use Rattle.std.proofs.Common.{◌≡◌, ◌++◌, map, drop}
use Rattle.std.specs.List.{flat_map}
use Rattle.hem_emit.specs.Actions.{set_targets}
use Rattle.hem_translate.specs.ByPlace.{action_at}
use Rattle.hem_translate.proofs.actions.push_each_targets.Given as goal

-- the actions so far and those of the sets that are left are all
abbrev pub invariant-loop-assign : goal.invariant-loop-assign
invariant-loop-assign l = l.actions ++ flat_map (λ s. map (action_at l.l) (set_targets l.site s)) (drop l.assign-index l.sets) ≡ l.fn.actions ++ flat_map (λ s. map (action_at l.l) (set_targets l.site s)) l.sets
