use Rattle.std.proofs.Common.{get_or, None}
use Rattle.std.proofs.lemmas.List.{take_more}
use Rattle.hem_base.specs.declared.ids.Firing.{Firing}
use Rattle.hem_system.proofs.Runs.{Runs-snoc}
use Rattle.hem_system.proofs.history.replay_from.Goals as goal

pub loop-place-preserved : goal.loop-place-preserved
loop-place-preserved c =
    let f : Firing = record { line = record { 0 = 0 }; object = record { 0 = 0 }; rule = record { 0 = 0 }; me = None } in
    rw (take_more c.args.history.now c.loop-place.place f c.loop-place-test.true) (Runs-snoc (get_or c.args.history.now c.loop-place.place f) c.loop-place.invariant c.in-Ok.ensures.ok.leads)
