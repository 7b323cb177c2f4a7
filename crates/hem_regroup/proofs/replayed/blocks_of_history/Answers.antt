use Rattle.std.proofs.Common.{◌∙◌, refl, sym, ap, subst, map, length}
use Rattle.std.proofs.lemmas.Result.{IfOk-weaker}
use Rattle.hem_tree.specs.Tree.{below}
use Rattle.hem_regroup.specs.Normal.{normal_members, AreBelow}
use Rattle.hem_regroup.specs.Printed.{blocks_of}
use Rattle.hem_regroup.specs.Ranks.{started}
use Rattle.hem_regroup.specs.Numbering.{numbered_by}
use Rattle.hem_regroup.proofs.Numbering.{run-within, one-each, first_each, history-blocks}
use Rattle.hem_regroup.proofs.ByRank.{ranks_below, ranked_blocks}
use Rattle.hem_regroup.proofs.replayed.blocks_of_history.Goals as goal

pub of-requires : goal.of-requires
of-requires c = first_each c.args.p.now c.args.tree.now c.args.history.now c.args.numbers.items c.requires

pub of-requires-2-clause-inside : goal.of-requires-2-clause-inside
of-requires-2-clause-inside c = let it = c.requires in run-within c.args.p.now c.args.tree.now _ c.args.history.now it.end it.history.runs.leads

pub of-requires-2-clause-one_each : goal.of-requires-2-clause-one_each
of-requires-2-clause-one_each c = ap length c.as_slice.ensures.value ∙ c.in_ok-starts.ensures.size ∙ one-each c.args.p.now c.args.tree.now c.args.history.now c.args.numbers.items c.requires

pub blocks_of_ranked-requires : goal.blocks_of_ranked-requires
blocks_of_ranked-requires c =
    let p = c.args.p.now in
    let tree = c.args.tree.now in
    let h = c.args.history.now in
    let it = c.in_ok-starts.ensures in
    let starts = c.in_ok-starts.field-0.starts.items in
    let ranks = c.in_ok-starts.field-0.ranks.items in
    let each = one-each p tree h c.args.numbers.items c.requires in
    subst (λ begun. AreBelow (length begun) c.in_ok-all.all) (sym c.as_slice-2.ensures.value)
    (subst (λ all. AreBelow (length starts) all) (sym (c.in_ok-all.ensures ∙ ap (numbered_by p tree h) c.as_slice.ensures.value)) (ranks_below p tree h c.args.numbers.items starts ranks each it))

pub returns : goal.returns
returns c = λ history.
    let p = c.args.p.now in
    let tree = c.args.tree.now in
    let h = c.args.history.now in
    let numbers = c.args.numbers.items in
    let starts = c.in_ok-starts.field-0.starts.items in
    let ranks = c.in_ok-starts.field-0.ranks.items in
    let each = one-each p tree h numbers c.requires in
    IfOk-weaker c.blocks_of_ranked.result _ _
    (λ blocks is.
    is
    ∙ ap (λ begun. map (started begun) (blocks_of (normal_members c.in_ok-all.all) (below (length begun)))) c.as_slice-2.ensures.value
    ∙ ap (λ all. map (started starts) (blocks_of (normal_members all) (below (length starts)))) (c.in_ok-all.ensures ∙ ap (numbered_by p tree h) c.as_slice.ensures.value)
    ∙ ranked_blocks p tree h numbers starts ranks each c.in_ok-starts.ensures
    ∙ history-blocks p tree h numbers (numbered_by p tree h numbers) history refl)
    c.blocks_of_ranked.ensures
