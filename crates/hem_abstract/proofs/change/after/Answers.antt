use Rattle.std.proofs.Common.{◌≡◌, ap, sym, ◌∙◌}
use Rattle.hem_abstract.specs.Abstract.{Abstract}
use Rattle.hem_abstract.specs.Parts.{fields_after, kids_after}
use Rattle.hem_abstract.proofs.Split.{after-apart}
use Rattle.hem_abstract.proofs.change.after.Goals as goal

pub returns : goal.returns
returns c =
    let at = c.args.at.now in
    let sets = c.args.sets.now in
    let targets = c.args.targets in
    let fields = c.fields_after.ensures ∙ ap (fields_after sets) (c.as_slice.ensures.value ∙ ap (λ (a : Abstract). a.fields) c.at.view_is) in
    let kids = c.kids_after.ensures ∙ ap (λ k. kids_after targets sets k) (ap (λ (a : Abstract). a.kids) c.at.view_is) in
    let same : (let now : Abstract = record { fields = c.fields_after.result.items; kids = c.kids_after.result } in now) ≡ (let now : Abstract = record { fields = fields_after sets at.fields; kids = kids_after targets sets at.kids } in now) = (λ i. record { fields = fields i; kids = kids i }) in
    same ∙ sym (after-apart sets targets at)
