use Rattle.std.proofs.Common.{◌≡◌, length}
use Rattle.hem_regroup.specs.Normal.{IsPlacing}
use Rattle.hem_regroup.proofs.normal.normal_order.Given as goal

abbrev pub invariant-loop-place : goal.invariant-loop-place
invariant-loop-place l = record {
  size : length l.held ≡ l.count;
  placing : IsPlacing l.all l.place l.members.items l.held;
}
