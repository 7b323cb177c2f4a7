use Rattle.std.proofs.Common.{◌≡◌, ◌++◌, drop}
use Rattle.std.specs.List.{flat_map}
use Rattle.hem_translate.specs.Targets.{sent_to}
use Rattle.hem_translate.proofs.targets.push_sends.Given as goal

-- the actions so far and those of the targets that are left are all
abbrev pub invariant-loop-target : goal.invariant-loop-target
invariant-loop-target l = l.actions ++ flat_map (sent_to l.l l.id l.amounts) (drop l.target-index l.targets) ≡ l.fn.actions ++ flat_map (sent_to l.l l.id l.amounts) l.targets
