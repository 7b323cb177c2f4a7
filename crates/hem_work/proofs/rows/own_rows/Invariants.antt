use Rattle.std.proofs.Common.{◌≡◌}
use Rattle.std.specs.Prelude.{map}
use Rattle.hem_tree.specs.Tree.{below}
use Rattle.hem_work.specs.Work.{requests_of}
use Rattle.hem_work.proofs.rows.own_rows.Given as goal

abbrev pub invariant-loop-line : goal.invariant-loop-line
invariant-loop-line l = l.rows ≡ map (λ line. map (requests_of l.work line) (below l.objects)) (below l.line)
