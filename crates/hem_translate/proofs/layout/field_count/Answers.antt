use Rattle.std.proofs.Common.{ap, ◌∙◌, length, arith}
use Rattle.hem_syntax.specs.Protocol.{KindPart}
use Rattle.hem_object.proofs.Fields.{few_fields}
use Rattle.hem_translate.proofs.layout.field_count.Goals as goal

pub overflow_cast-result : goal.overflow_cast-result
overflow_cast-result c =
    let n = c.len.ensures ∙ ap (λ (k : KindPart). length k.fields) (c.behind-p.view_is ∙ c.part.ensures.part) in
    let few = few_fields c.args.p.now c.args.kind c.part.ensures.lawful in
    omega (arith, n, few)

pub returns : goal.returns
returns c = c.len.ensures ∙ ap (λ (k : KindPart). length k.fields) (c.behind-p.view_is ∙ c.part.ensures.part)
