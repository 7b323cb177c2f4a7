use Rattle.std.proofs.Common.{◌≡◌, ◌*◌, ◌^◌, ◌+◌, arith}
use Rattle.std.specs.Prelude.{bit_or}
use Rattle.std.proofs.lemmas.Nat.{one_shl}
use Rattle.std.specs.Int.Bits.{or_shifted_r}
use Rattle.hem_object.proofs.kids.with_kid.Goals as goal

pub returns-then-wanted : goal.returns-then-wanted
returns-then-wanted c =
    let place = c.args.place in
    let or = or_shifted_r 1 place c.args.kids c.requires.below in
    let one : 1 * 2 ^ place ≡ 2 ^ place = omega arith in
    let bits : bit_or c.args.kids (2 ^ place) ≡ 2 ^ place + c.args.kids = rw one at or in
    rw (c.if-wanted.true, one_shl place 16 c.requires.place, bits) (omega arith)
