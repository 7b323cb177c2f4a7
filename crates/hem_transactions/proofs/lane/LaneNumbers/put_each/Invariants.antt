use Rattle.std.proofs.Common.{◌≡◌, ℕ, cond, length, ◌++◌, ◌∷◌, []}
use Rattle.hem_transactions.specs.Carried.{numbers_at}
use Rattle.hem_transactions.proofs.ChildrenMet.{is_child_before}
use Rattle.hem_transactions.proofs.lane.LaneNumbers.put_each.Given as goal

-- the lists of the children so far have one message more
abbrev pub invariant-loop-place : goal.invariant-loop-place
invariant-loop-place l = record {
  size : length l.self ≡ length l.fn.self;
  sent : (k : ℕ) → numbers_at l.self k ≡ numbers_at l.fn.self k ++ cond (is_child_before l.tree l.fn.object.0 l.kids.0 l.place k) (l.number ∷ []) [];
}
