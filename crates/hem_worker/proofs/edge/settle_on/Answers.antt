use Rattle.hem_worker.proofs.edge.settle_on.Goals as goal

pub settle_line-requires-clause-edge : goal.settle_line-requires-clause-edge
settle_line-requires-clause-edge g c = λ κs within kid at. c.requires.joined c.at_mut-high.result.now c.at_mut-low.result.now kid c.at_mut-high.ensures.item c.at_mut-low.ensures.item at
