use Rattle.std.proofs.Common.{◌≡◌, ◌<◌}
use Rattle.hem_tree.specs.Tree.{place_among}
use Rattle.hem_runner.specs.Settles.{AreSettledFor}
use Rattle.hem_runner.proofs.settle.settle_below.Given as goal

abbrev pub invariant-loop-place : goal.invariant-loop-place
invariant-loop-place g l = AreSettledFor (λ o parent. (parent ≡ l.high.0) × (place_among l.tree parent o < l.place)) l.tree l.fn.crew l.crew
