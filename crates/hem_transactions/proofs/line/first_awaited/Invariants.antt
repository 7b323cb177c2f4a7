use Rattle.std.proofs.Common.{◌≡◌, ◌<◌, ℕ, false}
use Rattle.hem_base.specs.Sets.{has_bit}
use Rattle.hem_transactions.proofs.line.first_awaited.Given as goal

-- none of the children so far is in the set
abbrev pub invariant-loop-place : goal.invariant-loop-place
invariant-loop-place l = (i : ℕ) → i < l.place → has_bit l.kids.0 i ≡ false
