use Rattle.std.proofs.Common.{◌≡◌, drop}
use Rattle.hem_abstract.specs.Parts.{kids_after}
use Rattle.hem_abstract.proofs.kids.kids_after.Given as goal

-- the sets that are left lead on to what all sets lead to
abbrev pub invariant-loop-set : goal.invariant-loop-set
invariant-loop-set l = kids_after l.targets (drop l.set-index l.sets) l.kids ≡ kids_after l.targets l.sets l.fn.kids
