use Rattle.std.proofs.Common.{◌≡◌, ◌∙◌, sym, ◌<◌, length, drop, get_or, ◌+◌, false}
use Rattle.std.specs.Prelude.{None}
use Rattle.std.proofs.lemmas.List.{drop_more}
use Rattle.hem_base.specs.Sets.{has_bit}
use Rattle.hem_fire.proofs.FirstHead.{first_from-past}
use Rattle.hem_fire.proofs.heads.Heads.first_response.Goals as goal

pub loop-place-preserved : goal.loop-place-preserved
loop-place-preserved c =
    let kids = c.args.self.now.kids in
    let place = c.loop-place.place in
    let same : c.deref-head-items.result.now ≡ kids = rw (← c.self.view_is) c.deref-head-items.ensures.0 in
    let within : place < length kids = rw same at c.loop-place-test.true in
    let off : has_bit c.args.awaited.0 place ≡ false = sym c.has.ensures ∙ c.if-has.false in
    sym (first_from-past c.args.awaited place (get_or kids place None) (drop (place + 1) kids) off) ∙ (rw (drop_more kids place None within) at c.loop-place.invariant)
