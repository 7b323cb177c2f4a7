use Rattle.hem_wiring.proofs.crew.add_at.Goals as goal

pub add_line-requires-clause-unused : goal.add_line-requires-clause-unused
add_line-requires-clause-unused g c κs within = (c.requires.takes c.at_mut-worker.result.now c.at_mut-worker.ensures.item).unused
