use Rattle.std.proofs.Common.{◌≡◌, ◌++◌, drop}
use Rattle.hem_translate.proofs.amounts.push_tests.Given as goal

-- the tests so far and those that are left are all
abbrev pub invariant-loop-test : goal.invariant-loop-test
invariant-loop-test l = l.atoms ++ drop l.test-index l.tests ≡ l.fn.atoms ++ l.tests
