use Rattle.std.proofs.Common.{◌≡◌, ◌++◌, map, drop}
use Rattle.hem_translate.specs.Targets.{awaited_by}
use Rattle.hem_translate.proofs.targets.push_awaits.Given as goal

-- the actions so far and those of the targets that are left are all
abbrev pub invariant-loop-target : goal.invariant-loop-target
invariant-loop-target l = l.actions ++ map (awaited_by l.l) (drop l.target-index l.targets) ≡ l.fn.actions ++ map (awaited_by l.l) l.targets
