use Rattle.std.proofs.Common.{◌≡◌, ◌++◌, map, drop}
use Rattle.hem_translate.specs.Targets.{aimed}
use Rattle.hem_translate.proofs.targets.push_each_aimed.Given as goal

-- the targets so far and those that are left are all
abbrev pub invariant-loop-test : goal.invariant-loop-test
invariant-loop-test l = l.targets ++ map (aimed l.kid l.first) (drop l.test-index l.tests) ≡ l.fn.targets ++ map (aimed l.kid l.first) l.tests
