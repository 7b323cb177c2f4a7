use Rattle.std.proofs.Common.{◌≡◌, ◌∙◌, ap}
use Rattle.hem_syntax.specs.Protocol.{KindPart, part}
use Rattle.hem_object.proofs.Fields.{few_fields, starts_with}
use Rattle.hem_object.proofs.local.Local.start.Goals as goal

pub first_fields-requires : goal.first_fields-requires
first_fields-requires c =
    let fields : c.as_slice.result.now ≡ (part c.args.p.now c.args.kind).fields = c.as_slice.ensures ∙ ap (λ (k : KindPart). k.fields) (c.part.view_is ∙ c.part-part.ensures.part) in
    rw fields (few_fields c.args.p.now c.args.kind c.part-part.ensures.lawful)

pub returns : goal.returns
returns c =
    let fields : c.as_slice.result.now ≡ (part c.args.p.now c.args.kind).fields = c.as_slice.ensures ∙ ap (λ (k : KindPart). k.fields) (c.part.view_is ∙ c.part-part.ensures.part) in
    let dir : c.part.inside.dir ≡ (part c.args.p.now c.args.kind).dir = ap (λ (k : KindPart). k.dir) (c.part.view_is ∙ c.part-part.ensures.part) in
    starts_with c.args.p.now c.args.kind c.args.children c.as_slice.result.now c.part.inside.dir _ _ fields dir c.first_fields.ensures c.first_entries.ensures
