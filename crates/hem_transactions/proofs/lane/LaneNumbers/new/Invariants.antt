use Rattle.std.proofs.Common.{◌≡◌, ℕ, [], length}
use Rattle.hem_transactions.specs.Carried.{numbers_at}
use Rattle.hem_transactions.proofs.lane.LaneNumbers.new.Given as goal

-- the objects so far have lists with no message
abbrev pub invariant-loop-object : goal.invariant-loop-object
invariant-loop-object l = record {
  size : length l.queues ≡ l._object;
  none : (k : ℕ) → numbers_at l.queues k ≡ [];
}
