use Rattle.std.proofs.Common.{arith}
use Rattle.hem_text.proofs.Short.{short_is_small}
use Rattle.hem_text.proofs.numbers.is_at_most.Goals as goal

pub returns-then-bound-ge-MOST_OF_SHORT : goal.returns-then-bound-ge-MOST_OF_SHORT
returns-then-bound-ge-MOST_OF_SHORT c =
    short_is_small c.args.text.now c.args.bound (λ i. omega (arith, c.type_inv.text i)) (omega (arith, c.if-text-le-SHORT.true)) (omega (arith, c.if-bound-ge-MOST_OF_SHORT.true))
