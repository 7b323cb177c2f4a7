use Rattle.std.proofs.Common.{◌≡◌, ℕ, [], length, take}
use Rattle.std.specs.Prelude.{slice_index_or}
use Rattle.hem_regroup.specs.Printed.{firings_in}
use Rattle.hem_regroup.proofs.blocks.group.Given as goal

abbrev pub invariant-loop-member : goal.invariant-loop-member
invariant-loop-member l = record {
  size : length l.groups ≡ l.count;
  firings : (t : ℕ) → slice_index_or l.groups t [] ≡ firings_in (take l.member-index l.members) t;
}
