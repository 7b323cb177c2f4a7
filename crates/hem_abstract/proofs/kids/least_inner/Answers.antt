use Rattle.std.proofs.Common.{◌≡◌, sym, ◌∙◌, ◌<◌, ◌*◌, ◌^◌, ◌%◌, arith}
use Rattle.std.proofs.lemmas.Nat.{one_shl, pow_pos}
use Rattle.hem_abstract.specs.Parts.{kids_lose}
use Rattle.hem_abstract.proofs.Turns.{kids-some, kids-none, kids-never}
use Rattle.hem_abstract.proofs.kids.least_inner.Goals as goal

pub returns-then-lose : goal.returns-then-lose
returns-then-lose c =
    let e : (1 * 2 ^ c.args.statuses) % 256 ≡ 2 ^ c.args.statuses = one_shl c.args.statuses 8 c.requires in
    let less : c.loop-number.number < 2 ^ c.args.statuses = omega (arith, e, c.loop-number-test.true) in
    kids-some (kids_lose c.args.up.now c.args.turn.now c.args.losing) c.args.statuses c.loop-number.number c.loop-number.auto.number less c.loop-number.invariant (sym c.lose.ensures ∙ c.if-lose.true)

pub loop-number-preserved : goal.loop-number-preserved
loop-number-preserved c =
    kids-none (kids_lose c.args.up.now c.args.turn.now c.args.losing) c.loop-number.number c.loop-number.auto.number c.loop-number.invariant (sym c.lose.ensures ∙ c.if-lose.false)

pub returns : goal.returns
returns c =
    let e : (1 * 2 ^ c.args.statuses) % 256 ≡ 2 ^ c.args.statuses = one_shl c.args.statuses 8 c.requires in
    let some = pow_pos c.args.statuses in
    let top = c.loop-number.auto.number-end (omega (arith, e, some)) in
    let end : c.loop-number.number ≡ 2 ^ c.args.statuses = omega (arith, e, top, c.loop-number-test.false) in
    kids-never (kids_lose c.args.up.now c.args.turn.now c.args.losing) c.args.statuses c.loop-number.number end c.loop-number.invariant
