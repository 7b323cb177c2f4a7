use Rattle.std.proofs.Common.{rules, arith, ◌≡◌}
use Rattle.std.proofs.lemmas.Nat.Bits.{bit_at_above}
use Rattle.std.specs.Int.{bit_at}
use Rattle.std.proofs.lemmas.Grind.{common_steps}
use Rattle.hem_print.proofs.names.has_place.Goals as goal

pub returns-else-place-lt8 : goal.returns-else-place-lt8
returns-else-place-lt8 c =
    let above : bit_at c.args.set.0 c.args.place ≡ 0 = bit_at_above c.args.set.0 8 c.args.place (search rules) c.if-place-lt8.false in
    rw above (grind (arith, common_steps))
