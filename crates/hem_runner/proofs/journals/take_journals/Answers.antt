use Rattle.std.proofs.Common.{◌<◌, arith}
use Rattle.hem_runner.proofs.TakenOut.{lines-more, lines-there}
use Rattle.hem_runner.proofs.journals.take_journals.Goals as goal

pub take_line-requires-after_bounds : goal.take_line-requires-after_bounds
take_line-requires-after_bounds g c κs within =
    let less : c.loop-line.line < c.args.lines = omega arith in
    lines-there c.loop-line.line c.args.lines c.loop-line.journals c.args.crew.now c.loop-line.crew c.requires less c.loop-line.invariant

pub loop-line-preserved : goal.loop-line-preserved
loop-line-preserved g c = lines-more c.loop-line.line c.loop-line.journals c.take_line.new.journals c.args.crew.now c.loop-line.crew c.take_line.new.crew c.loop-line.invariant c.in_ok-take_line.ensures.journals c.in_ok-take_line.ensures.taken
