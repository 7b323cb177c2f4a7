use Rattle.std.proofs.Common.{◌∙◌, ◌-◌, ◌<◌, ap, length, set, arith}
use Rattle.std.proofs.Math.ListN.{length-set}
use Rattle.hem_template.specs.Template.{template_of}
use Rattle.hem_template.specs.Waiting.{is_upward_template}
use Rattle.hem_regroup.proofs.UpwardTable.{found-below, table_more, whole_table}
use Rattle.hem_regroup.proofs.upward.upward_names.Goals as goal

pub index_mut-requires : goal.index_mut-requires
index_mut-requires c =
    let rules = c.as_slice-rules.result.now in
    let are = c.as_slice-rules.ensures ∙ ap (λ k. k.rules) (c.behind-p.view_is ∙ c.part.ensures.part) in
    let below = found-below c.args.p.now c.args.kind rules (length rules - 1 - c.loop-back.back) (length c.loop-back.names.items) c.index-rules-rules.result c.part.ensures.lawful are (let less = c.loop-back-test.true in omega (arith, less)) c.index-rules-rules.is c.loop-back.invariant.size in
    omega (arith, below)

pub loop-back-preserved : goal.loop-back-preserved
loop-back-preserved c =
    let rules = c.as_slice-rules.result.now in
    let r = c.index-rules-rules.result in
    let names = c.loop-back.names.items in
    let are = c.as_slice-rules.ensures ∙ ap (λ k. k.rules) (c.behind-p.view_is ∙ c.part.ensures.part) in
    let below : r.name.0 < length names = found-below c.args.p.now c.args.kind rules (length rules - 1 - c.loop-back.back) (length names) r c.part.ensures.lawful are (let less = c.loop-back-test.true in omega (arith, less)) c.index-rules-rules.is c.loop-back.invariant.size in
    let written = ap (λ up. set names r.name.0 up) c.is_upward.ensures in
    record {
      size = length-set names r.name.0 c.is_upward.result ∙ c.loop-back.invariant.size;
      names = λ n. table_more (λ rule. is_upward_template (template_of c.args.p.now c.args.kind rule)) rules r c.loop-back.back n names (set names r.name.0 c.is_upward.result) c.loop-back-test.true c.index-rules-rules.is below (c.loop-back.invariant.names n) written;
    }

pub returns : goal.returns
returns c = λ name.
    let rules = c.as_slice-rules.result.now in
    let are = c.as_slice-rules.ensures ∙ ap (λ k. k.rules) (c.behind-p.view_is ∙ c.part.ensures.part) in
    c.loop-back.invariant.names name.0 ∙ whole_table (λ rule. is_upward_template (template_of c.args.p.now c.args.kind rule)) rules _ c.loop-back.back name.0 are c.loop-back-test.false
