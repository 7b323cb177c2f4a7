use Rattle.std.proofs.Common.{arith}
use Rattle.hem_runner.proofs.Settling.{still-crew, all-more, all-settled}
use Rattle.hem_runner.proofs.settle.settle_all.Goals as goal

pub settle_below-requires-clause-crew : goal.settle_below-requires-clause-crew
settle_below-requires-clause-crew g c = λ κs within. still-crew c.args.tree.now c.args.crew.now c.loop-high.crew c.requires c.loop-high.invariant.still

pub loop-high-preserved : goal.loop-high-preserved
loop-high-preserved g c = all-more c.requires.p c.args.tree.now c.args.crew.now c.loop-high.crew c.settle_below.new.crew c.loop-high.high c.loop-high.invariant c.settle_below.ensures

pub returns : goal.returns
returns g c = λ p. all-settled p c.args.tree.now c.args.crew.now c.loop-high.crew c.loop-high.high c.objects-high-end.ensures.lawful.shape (omega arith) c.loop-high.invariant
