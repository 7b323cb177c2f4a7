use Rattle.std.proofs.Common.{◌≡◌, ◌∙◌, sym, ap, false}
use Rattle.std.specs.Prelude.{slice_get, option_and_then}
use Rattle.hem_system.specs.declared.lane.Lane.TheVariants.{UpResponses}
use Rattle.hem_system.specs.Events.{Event}
use Rattle.hem_transactions.specs.Along.{awaited}
use Rattle.hem_transactions.proofs.FirstTaken.{by_kids}
use Rattle.hem_transactions.proofs.line.LineNumbers.taken.Goals as goal

pub returns-in-Some-first_awaited : goal.returns-in-Some-first_awaited
returns-in-Some-first_awaited c = λ tags are.
    let tree = c.args.tree.now in
    let e = c.args.event.now in
    let parent : e.outs.taken_parent ≡ false = ap (λ (e : Event). e.outs.taken_parent) (sym c.event.view_is) ∙ c.if-event.false in
    let first = c.in-Some-first_awaited.ensures ∙ ap (λ (e : Event). slice_get (awaited tree e.firing.object.0 e.outs.taken_kids.0) 0) c.event.view_is in
    c.first-in-Some-first_awaited.ensures
    ∙ ap (λ xs. slice_get xs 0) (are.up_responses c.in-Some-first_awaited.child.0)
    ∙ ap (option_and_then (λ k. slice_get (tags (record { line = e.firing.line.0; object = k; lane = UpResponses })) 0)) first
    ∙ by_kids tree tags e (sym c.in_default.ensures) parent

pub returns-in-None : goal.returns-in-None
returns-in-None c = λ tags are.
    let tree = c.args.tree.now in
    let e = c.args.event.now in
    let parent : e.outs.taken_parent ≡ false = ap (λ (e : Event). e.outs.taken_parent) (sym c.event.view_is) ∙ c.if-event.false in
    let first = c.in-None.ensures ∙ ap (λ (e : Event). slice_get (awaited tree e.firing.object.0 e.outs.taken_kids.0) 0) c.event.view_is in
    ap (option_and_then (λ k. slice_get (tags (record { line = e.firing.line.0; object = k; lane = UpResponses })) 0)) first
    ∙ by_kids tree tags e (sym c.in_default.ensures) parent
