use Rattle.std.proofs.Common.{◌≡◌}
use Rattle.hem_base.specs.Sets.{bits_where}
use Rattle.hem_object.specs.Targets.{kid_is_in}
use Rattle.hem_object.proofs.local.Local.kids_in.Given as goal

-- the children so far that are in the set
abbrev pub invariant-loop-place : goal.invariant-loop-place
invariant-loop-place l = l.kids ≡ bits_where (kid_is_in l.self l.set) l.place
