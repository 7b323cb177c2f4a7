use Rattle.std.proofs.Common.{◌≡◌, ◌++◌, map, drop}
use Rattle.hem_translate.specs.ByChild.{child_rule}
use Rattle.hem_translate.proofs.rules.push_each_child.Given as goal

-- the rules so far and those of the children that are left are all
abbrev pub invariant-loop-kid : goal.invariant-loop-kid
invariant-loop-kid l = l.rules ++ map (child_rule l.l l.p l.site l.rule) (drop l.kid-index l.kids) ≡ l.fn.rules ++ map (child_rule l.l l.p l.site l.rule) l.kids
