use Rattle.std.proofs.Common.{◌≡◌, ◌∙◌, ap, ◌+◌, ◌-◌, ◌<◌, length, take, arith}
use Rattle.hem_module.specs.Plans.{sent}
use Rattle.hem_module.proofs.Steps.{unsent}
use Rattle.hem_module.proofs.changes.unsend_all.Goals as goal

pub loop-place-preserved-then-at-len : goal.loop-place-preserved-then-at-len
loop-place-preserved-then-at-len c before is =
    let sends = c.args.sends.now in
    let place = c.loop-place.place in
    let e : place ≡ (place - 1) + 1 = omega (arith, c.loop-place-test.true) in
    let within : place - 1 < length sends = omega (arith, c.loop-place-test.true, c.loop-place.auto.place) in
    let there = rw c.len.ensures at c.if-at-len.true in
    c.unsend.ensures
    ∙ unsent before c.loop-place.queues sends (place - 1) _ within (c.loop-place.invariant before is ∙ ap (λ n. sent before (take n sends)) e) there
