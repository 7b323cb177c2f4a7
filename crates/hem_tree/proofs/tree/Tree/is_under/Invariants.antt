use Rattle.std.proofs.Common.{◌<◌, length}
use Rattle.std.specs.Prelude.{◌↔◌}
use Rattle.hem_tree.specs.Tree.{IsUnder}
use Rattle.hem_tree.proofs.tree.Tree.is_under.Given as goal

abbrev pub invariant-loop-parent : goal.invariant-loop-parent
invariant-loop-parent l = record {
  within : l.at.0 < length l.self;
  same : IsUnder l.self l.fn.low.0 l.high.0 ↔ IsUnder l.self l.at.0 l.high.0;
}

abbrev pub decreases-loop-parent : goal.decreases-loop-parent
decreases-loop-parent l = l.at.0
