use Rattle.std.proofs.Common.{arith}
use Rattle.hem_walk.proofs.Bits.{none_left, lowest_left}
use Rattle.hem_walk.proofs.marks.lowest_bit.Goals as goal

pub returns-then-left-eq0-clause-none : goal.returns-then-left-eq0-clause-none
returns-then-left-eq0-clause-none c = none_left c.args.word c.args.from c.requires (omega arith) c.if-left-eq0.true

pub returns-else-left-eq0-clause-some : goal.returns-else-left-eq0-clause-some
returns-else-left-eq0-clause-some c = lowest_left c.args.word c.args.from c.requires (omega arith) c.if-left-eq0.false
