use Rattle.std.proofs.Common.{◌≡◌, ◌++◌, map, drop}
use Rattle.hem_regroup.specs.Normal.{place_of}
use Rattle.hem_regroup.proofs.tops.places.Given as goal

-- the places so far and those of what is left are all
abbrev pub invariant-loop-top : goal.invariant-loop-top
invariant-loop-top l = l.places.items ++ map place_of (drop l.top-index l.tops) ≡ map place_of l.tops
