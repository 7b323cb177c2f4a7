use Rattle.std.proofs.Common.{◌≡◌, ℕ, cond, drop, length}
use Rattle.hem_transactions.specs.Carried.{numbers_at}
use Rattle.hem_transactions.proofs.ChildrenMet.{is_child_before}
use Rattle.hem_transactions.proofs.lane.LaneNumbers.take_each.Given as goal

-- the lists of the children so far are taken from
abbrev pub invariant-loop-place : goal.invariant-loop-place
invariant-loop-place l = record {
  size : length l.self ≡ length l.fn.self;
  taken : (k : ℕ) → numbers_at l.self k ≡ drop (cond (is_child_before l.tree l.fn.object.0 l.kids.0 l.place k) 1 0) (numbers_at l.fn.self k);
}
