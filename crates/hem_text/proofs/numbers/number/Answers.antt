use Rattle.std.proofs.Common.{arith}
use Rattle.hem_text.proofs.Grows.{is_large}
use Rattle.hem_text.proofs.numbers.number.Goals as goal

pub returns-in_err-checked_mul : goal.returns-in_err-checked_mul
returns-in_err-checked_mul c =
    rw c.from_residual.ensures (is_large c.args.text.now c.loop-b.n c.loop-b.b-index c.loop-b-test.true (omega (arith, c.in_err-checked_mul.ensures)) c.loop-b.invariant)

pub returns-in_err-n : goal.returns-in_err-n
returns-in_err-n c =
    rw c.from_residual-in_err-n.ensures (is_large c.args.text.now c.loop-b.n c.loop-b.b-index c.loop-b-test.true (omega (arith, c.in_err-n.ensures, c.in_ok-checked_mul.ensures, c.saturating_sub.ensures, c.from-digit.ensures)) c.loop-b.invariant)
