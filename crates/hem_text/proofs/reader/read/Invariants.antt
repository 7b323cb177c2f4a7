use Rattle.std.proofs.Common.{length}
use Rattle.hem_text.specs.Grammars.{state}
use Rattle.hem_text.proofs.FirstFaults.{IsAlong}
use Rattle.hem_text.proofs.reader.read.Given as goal

abbrev pub invariant-loop-ahead : goal.invariant-loop-ahead
invariant-loop-ahead g l = IsAlong g.L.Language.grammar (state l.fn.env l.fn.stack) l.fn.cursor l.ahead (state l.env l.stack)

abbrev pub decreases-loop-ahead : goal.decreases-loop-ahead
decreases-loop-ahead g l = length l.ahead.tokens
