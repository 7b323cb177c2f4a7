use Rattle.std.proofs.Common.{sym, ap, subst, ◌+◌}
use Rattle.hem_base.specs.declared.ids.ObjectId.{ObjectId}
use Rattle.hem_wiring.specs.Wiring.{AreBare}
use Rattle.hem_wiring.proofs.Crews.{one_worker}
use Rattle.hem_wiring.proofs.crew.bare_workers.Goals as goal

pub loop-o-preserved : goal.loop-o-preserved
loop-o-preserved g c =
    subst (AreBare c.args.tree.now c.args.self_count (c.loop-o.o + 1)) (sym c.in_ok-push.ensures.ok)
    (one_worker c.args.tree.now c.args.self_count c.loop-o.o c.loop-o.crew c.in_ok-worker.worker c.loop-o.invariant (record {
      object = ap (λ (id : ObjectId). id.0) c.in_ok-worker.ensures.object.0;
      self_count = c.in_ok-worker.ensures.object.1;
      lines = c.in_ok-worker.ensures.lines;
      stands = c.in_ok-worker.ensures.stands;
    }))
