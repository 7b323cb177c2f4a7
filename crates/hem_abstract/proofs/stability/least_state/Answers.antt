use Rattle.std.proofs.Common.{ap, ◌∙◌, length, arith}
use Rattle.hem_syntax.specs.Protocol.{KindPart}
use Rattle.hem_object.proofs.Fields.{few_fields}
use Rattle.hem_abstract.specs.Stable.{field_lists}
use Rattle.hem_abstract.specs.First.{first_with}
use Rattle.hem_abstract.specs.Search.{clash_of, clash_at}
use Rattle.hem_abstract.proofs.LeastState.{least-is}
use Rattle.hem_abstract.proofs.stability.least_state.Goals as goal

pub of-requires-clause-fields : goal.of-requires-clause-fields
of-requires-clause-fields c =
    let n = c.len-fields.ensures ∙ ap (λ (k : KindPart). length k.fields) (c.behind-p.view_is ∙ c.part.ensures.part) in
    let few = few_fields c.args.p.now c.args.kind c.part.ensures.lawful in
    omega (arith, n, few)

pub least-requires : goal.least-requires
least-requires c =
    let n = c.len-fields.ensures ∙ ap (λ (k : KindPart). length k.fields) (c.behind-p.view_is ∙ c.part.ensures.part) in
    let few = few_fields c.args.p.now c.args.kind c.part.ensures.lawful in
    omega (arith, n, few)

pub returns : goal.returns
returns c =
    let p = c.args.p.now in
    let kind = c.args.kind in
    let u = c.args.up.now in
    let turn = c.args.turn.now in
    let n = c.len-fields.ensures ∙ ap (λ (k : KindPart). length k.fields) (c.behind-p.view_is ∙ c.part.ensures.part) in
    let m = c.len-statuses.ensures ∙ ap length c.statuses.ensures in
    c.least.ensures
    ∙ (λ i. first_with (clash_at (c.of.ensures i)) (field_lists c.len-fields.result c.len-statuses.result))
    ∙ (λ i. first_with (clash_at (clash_of u turn kind (n i) (m i))) (field_lists (n i) (m i)))
    ∙ least-is p kind u turn
