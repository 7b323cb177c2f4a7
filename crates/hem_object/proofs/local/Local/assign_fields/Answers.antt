use Rattle.std.proofs.Common.{drop-cons, add-one, sym}
use Rattle.hem_object.proofs.Assigns.{all_names-assign_own, and_right}
use Rattle.hem_object.proofs.local.Local.assign_fields.Goals as goal

-- src/assign.rt:55:9
pub loop-set-preserved : goal.loop-set-preserved
loop-set-preserved c =
    let one = c.assign_one.ensures c.args.self.now (sym c.loop-set.invariant.same) in
    let cut = drop-cons c.args.sets.now c.loop-set.set-index _ c.loop-set-test.true in
    record {
      goes_on = rw (add-one, one) (rw cut at c.loop-set.invariant.goes_on);
      names = rw (add-one, one, all_names-assign_own) (and_right _ _ (rw cut at c.loop-set.invariant.names));
      same = c.loop-set.invariant.same;
    }
