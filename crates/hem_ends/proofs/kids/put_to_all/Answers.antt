use Rattle.std.proofs.Common.{rules}
use Rattle.hem_ends.proofs.SoFar.{one-more, all-done}
use Rattle.hem_ends.proofs.kids.put_to_all.Goals as goal

pub loop-place-preserved : goal.loop-place-preserved
loop-place-preserved g c = one-more _ c.loop-place.place _ _ _ c.loop-place.invariant (rw c.goes_down.ensures at c.put_at.ensures)

pub returns : goal.returns
returns g c = all-done _ c.loop-place.place _ _ (search rules) c.loop-place.invariant
