use Rattle.std.proofs.Common.{◌≡◌, ◌*◌, ◌^◌, ◌+◌, arith}
use Rattle.std.specs.Prelude.{bit_or}
use Rattle.std.proofs.lemmas.Nat.{one_shl}
use Rattle.std.specs.Int.Bits.{or_shifted_r}
use Rattle.hem_abstract.proofs.kids.with_status.Goals as goal

pub returns-then-wanted : goal.returns-then-wanted
returns-then-wanted c =
    let status = c.args.status in
    let or = or_shifted_r 1 status c.args.bits c.requires.below in
    let one : 1 * 2 ^ status ≡ 2 ^ status = omega arith in
    let bits : bit_or c.args.bits (2 ^ status) ≡ 2 ^ status + c.args.bits = rw one at or in
    rw (c.if-wanted.true, one_shl status 8 c.requires.place, bits) (omega arith)
