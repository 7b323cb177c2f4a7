use Rattle.std.proofs.Common.{◌≡◌, ◌++◌, map, drop}
use Rattle.hem_translate.specs.Amounts.{acted}
use Rattle.hem_translate.proofs.amounts.push_amounts.Given as goal

-- the actions so far and those of the amounts that are left are all
abbrev pub invariant-loop-amount : goal.invariant-loop-amount
invariant-loop-amount l = l.actions ++ map (acted l.tests l.deed) (drop l.amount-index l.amounts) ≡ l.fn.actions ++ map (acted l.tests l.deed) l.amounts
