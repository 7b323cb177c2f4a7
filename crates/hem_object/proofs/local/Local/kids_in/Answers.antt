use Rattle.std.proofs.Common.{◌≡◌, ◌∙◌}
use Rattle.hem_object.specs.Targets.{kid_is_in}
use Rattle.hem_object.proofs.Targets.{bits_where-lt, bits_where-suc, entry_is_in}
use Rattle.hem_object.proofs.local.Local.kids_in.Goals as goal

pub with_kid-kids-requires-clause-below : goal.with_kid-kids-requires-clause-below
with_kid-kids-requires-clause-below c =
    rw c.loop-place.invariant (bits_where-lt (kid_is_in c.args.self.now c.args.set) c.loop-place.place)

pub loop-place-preserved : goal.loop-place-preserved
loop-place-preserved c =
    let local = c.args.self.now in
    let items = c.deref-status-items.result.now in
    let same : items ≡ local.dir = rw (← c.self.view_is) c.deref-status-items.ensures.0 in
    let entry = entry_is_in c.args.set local.dir items c.loop-place.place _ same c.loop-place-test.true in
    bits_where-suc (kid_is_in local c.args.set) _ _ _ _ c.loop-place.invariant c.with_kid-kids.ensures (c.has.ensures ∙ entry)
