use Rattle.std.proofs.Common.{◌≡◌, ◌∙◌, ℕ, Bool, ◌&&◌, not, refl}
use Rattle.hem_object.specs.Guard.{is_requester}
use Rattle.hem_object.specs.Targets.{kid_is_in}
use Rattle.hem_object.proofs.Targets.{bits_where-lt, bits_where-suc, entry_is_in}
use Rattle.hem_object.proofs.local.Local.others_in.Goals as goal

pub with_kid-kids-requires-clause-below : goal.with_kid-kids-requires-clause-below
with_kid-kids-requires-clause-below c =
    let test : ℕ → Bool = λ k. kid_is_in c.args.self.now c.args.set k && not (is_requester c.args.view.now k) in
    rw c.loop-place.invariant (bits_where-lt test c.loop-place.place)

pub loop-place-preserved : goal.loop-place-preserved
loop-place-preserved c =
    let local = c.args.self.now in
    let items = c.deref-status-items.result.now in
    let test : ℕ → Bool = λ k. kid_is_in local c.args.set k && not (is_requester c.args.view.now k) in
    let same : items ≡ local.dir = rw (← c.self.view_is) c.deref-status-items.ensures.0 in
    let entry = entry_is_in c.args.set local.dir items c.loop-place.place (record { 0 = 0 }) same c.loop-place-test.true in
    bits_where-suc test _ _ _ _ c.loop-place.invariant c.with_kid-kids.ensures (c.is_other_in.ensures ∙ rw entry refl)
