use Rattle.std.proofs.Common.{◌≡◌, ◌∙◌, refl, sym, ap, Some}
use Rattle.std.specs.Prelude.{slice_get, slice_set}
use Rattle.std.proofs.lemmas.Result.{on_ok_weaker, IfOk-weaker}
use Rattle.hem_system.specs.Events.{Event}
use Rattle.hem_trace.specs.Tags.{Tags, tags_after}
use Rattle.hem_transactions.specs.Carried.{CarriesOn, Carry}
use Rattle.hem_transactions.proofs.OnLines.{lists_kept, carry_next}
use Rattle.hem_transactions.proofs.lines.follow.Goals as goal

pub follow-requires-clause-lists : goal.follow-requires-clause-lists
follow-requires-clause-lists c = c.requires.lists.on _ _ c.at_mut-line.ensures.item

pub returns-clause-lists : goal.returns-clause-lists
returns-clause-lists c =
    on_ok_weaker c.follow.result (lists_kept c.args.tree.now c.args.lines.now _ c.event.inside.firing.line.0 c.at_mut-line.result.now c.follow.new.self c.at_mut-line.ensures.item refl c.requires.lists) c.follow.ensures.lists

pub returns-clause-carry : goal.returns-clause-carry
returns-clause-carry c =
    let tree = c.args.tree.now in
    let e = c.args.event.now in
    let lines = c.args.lines.now in
    let old = c.at_mut-line.result.now in
    let new = c.follow.new.self in
    let here : c.event.inside.firing.line.0 ≡ e.firing.line.0 = ap (λ (e : Event). e.firing.line.0) c.event.view_is in
    let at : slice_get lines e.firing.line.0 ≡ Some old = ap (slice_get lines) (sym here) ∙ c.at_mut-line.ensures.item in
    IfOk-weaker c.follow.result (λ number. (tags : Tags) → CarriesOn tags e.firing.line.0 old → CarriesOn (tags_after tree tags e number) e.firing.line.0 new)
    (λ number. (tags : Tags) → Carry tags lines → Carry (tags_after tree tags e number) (slice_set lines c.event.inside.firing.line.0 new))
    (λ number goes tags are. carry_next tree tags e number lines (slice_set lines c.event.inside.firing.line.0 new) old new at (ap (λ l. slice_set lines l new) here) (goes tags) are)
    c.follow.ensures.carries
