use Rattle.std.proofs.Common.{◌≡◌, ◌++◌, map, filter}
use Rattle.hem_base.specs.Sets.{has_bit}
use Rattle.hem_tree.specs.Tree.{below}
use Rattle.hem_module.specs.Module.{equals}
use Rattle.hem_translate.specs.Places.{reg_of}
use Rattle.hem_translate.specs.ByPlace.{test_at}
use Rattle.hem_translate.proofs.clauses.push_statuses.Given as goal

-- the statuses so far
abbrev pub invariant-loop-number : goal.invariant-loop-number
invariant-loop-number l = l.atoms ≡ l.fn.atoms ++ map (test_at l.l) (map (λ s. equals (reg_of l.reg) s) (filter (has_bit l.set.0) (below l.number)))
