use Rattle.std.proofs.Common.{◌≡◌, ◌&&◌, not}
use Rattle.hem_base.specs.Sets.{bits_where}
use Rattle.hem_object.specs.Guard.{is_requester}
use Rattle.hem_object.specs.Targets.{kid_is_in}
use Rattle.hem_object.proofs.local.Local.others_in.Given as goal

-- the children so far that are in the set, but for the requester
abbrev pub invariant-loop-place : goal.invariant-loop-place
invariant-loop-place l = l.kids ≡ bits_where (λ k. kid_is_in l.self l.set k && not (is_requester l.view k)) l.place
