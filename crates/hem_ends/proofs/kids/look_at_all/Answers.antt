use Rattle.std.proofs.Common.{rules, ◌∙◌}
use Rattle.hem_ends.proofs.SoFar.{one-more, all-done, look-more}
use Rattle.hem_ends.proofs.kids.look_at_all.Goals as goal

pub loop-place-preserved : goal.loop-place-preserved
loop-place-preserved g c = (
  one-more _ c.loop-place.place _ _ _ c.loop-place.invariant.0 c.look_at.ensures.looked,
  c.push.ensures.items ∙ look-more c.loop-place.place _ _ _ _ c.look_at.ensures.looked c.look_at.ensures.seen c.loop-place.invariant.1,
)

pub returns-clause-looked : goal.returns-clause-looked
returns-clause-looked g c = all-done _ c.loop-place.place _ _ (search rules) c.loop-place.invariant.0
