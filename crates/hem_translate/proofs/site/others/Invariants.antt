use Rattle.std.proofs.Common.{◌≡◌, ◌++◌, drop, filter, not}
use Rattle.hem_emit.specs.Place.{is_named}
use Rattle.hem_translate.proofs.site.others.Given as goal

-- the kept ones so far and those that are left are all
abbrev pub invariant-loop-kid : goal.invariant-loop-kid
invariant-loop-kid l = l.kept ++ filter (λ k. not (is_named l.me k.0)) (drop l.kid-index l.kids) ≡ filter (λ k. not (is_named l.me k.0)) l.kids
