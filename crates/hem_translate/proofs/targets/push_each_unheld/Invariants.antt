use Rattle.std.proofs.Common.{◌≡◌, ◌++◌, drop}
use Rattle.std.specs.List.{flat_map}
use Rattle.hem_translate.specs.Targets.{unheld_by}
use Rattle.hem_translate.proofs.targets.push_each_unheld.Given as goal

-- the targets so far and those that are left are all
abbrev pub invariant-loop-kid : goal.invariant-loop-kid
invariant-loop-kid l = l.targets ++ flat_map (unheld_by l.l l.site l.side l.set) (drop l.kid-index l.kids) ≡ l.fn.targets ++ flat_map (unheld_by l.l l.site l.side l.set) l.kids
