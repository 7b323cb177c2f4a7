use Rattle.std.proofs.Common.{◌≡◌}
use Rattle.std.specs.Prelude.{filter}
use Rattle.hem_tree.specs.Tree.{below}
use Rattle.hem_work.specs.Made.{is_external_id}
use Rattle.hem_work.proofs.made.external_ids.Given as goal

abbrev pub invariant-loop-id : goal.invariant-loop-id
invariant-loop-id l = l.ids ≡ filter (is_external_id l.p) (below l.id)
