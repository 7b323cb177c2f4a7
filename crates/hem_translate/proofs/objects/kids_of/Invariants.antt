use Rattle.std.proofs.Common.{◌≡◌, map, take, length}
use Rattle.std.specs.List.{enumerate_from}
use Rattle.hem_translate.proofs.objects.kids_of.Given as goal

-- the children so far with their places
abbrev pub invariant-loop-child : goal.invariant-loop-child
invariant-loop-child l = (l.kids ≡ enumerate_from 0 (map (λ c. c.0) (take l.child-index l.children))) × (length l.kids ≡ l.child-index)
