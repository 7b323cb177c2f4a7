use Rattle.std.specs.Prelude.{◌≡◌, map, take}
use Rattle.hem_ends.specs.Ends.{kid_look, IsKidLooked}
use Rattle.hem_ends.proofs.SoFar.{IsSoFar}
use Rattle.hem_ends.proofs.kids.look_at_all.Given as goal

abbrev pub invariant-loop-place : goal.invariant-loop-place
invariant-loop-place g l = IsSoFar (λ k. IsKidLooked) l.place l.fn.kids l.kids × (l.looks.items ≡ map kid_look (take l.place l.kids))
