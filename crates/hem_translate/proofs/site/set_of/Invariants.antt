use Rattle.std.proofs.Common.{◌≡◌, take}
use Rattle.hem_translate.proofs.site.set_of.Given as goal

-- the items so far
abbrev pub invariant-loop-item : goal.invariant-loop-item
invariant-loop-item g l = l.set.keys ≡ take l.item-index l.items
