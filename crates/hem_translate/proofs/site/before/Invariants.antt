use Rattle.std.proofs.Common.{◌≡◌, ◌++◌, drop, filter, nat_lt}
use Rattle.hem_translate.proofs.site.before.Given as goal

-- the kept ones so far and those that are left are all
abbrev pub invariant-loop-kid : goal.invariant-loop-kid
invariant-loop-kid l = l.kept ++ filter (λ k. nat_lt k.0 l.place) (drop l.kid-index l.kids) ≡ filter (λ k. nat_lt k.0 l.place) l.kids
