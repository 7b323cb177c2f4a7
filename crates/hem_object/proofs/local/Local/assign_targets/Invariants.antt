use Rattle.std.proofs.Common.{◌≡◌, drop}
use Rattle.hem_object.specs.Changes.{assign_targets, in_turn}
use Rattle.hem_object.proofs.local.Local.assign_targets.Given as goal

-- the sets that are left lead on to what all sets lead to
abbrev pub invariant-loop-set : goal.invariant-loop-set
invariant-loop-set l = in_turn (assign_targets l.view) (drop l.set-index l.sets) l.self ≡ in_turn (assign_targets l.view) l.sets l.fn.self
