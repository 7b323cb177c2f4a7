use Rattle.std.proofs.Common.{◌∙◌, sym, ap, subst, map, length, arith}
use Rattle.std.proofs.lemmas.Result.{IfOk-weaker}
use Rattle.hem_law.specs.Orders.{stands_in}
use Rattle.hem_regroup.specs.Members.{precedes, IsWhole}
use Rattle.hem_regroup.specs.Turns.{turns}
use Rattle.hem_regroup.specs.Printed.{block_of}
use Rattle.hem_regroup.specs.Ranks.{started}
use Rattle.hem_regroup.specs.Ready.{Ascends}
use Rattle.hem_regroup.specs.Out.{AreOnce}
use Rattle.hem_regroup.proofs.Grouped.{blocks_same, turns_left}
use Rattle.hem_regroup.proofs.OutOnce.{turns-once}
use Rattle.hem_regroup.proofs.RankNumbers.{in_below, below_ascends, below_whole_of}
use Rattle.hem_regroup.proofs.blocks.blocks_in_order.Goals as goal

pub printed_order-requires-clause-ascends : goal.printed_order-requires-clause-ascends
printed_order-requires-clause-ascends c = subst (λ left. Ascends left) (sym (c.as_slice.ensures.value ∙ c.in_ok-left.ensures)) (below_ascends (length c.args.starts.now))

pub printed_order-requires-clause-below : goal.printed_order-requires-clause-below
printed_order-requires-clause-below c = λ u there. in_below (length c.args.starts.now) u (ap (λ left. stands_in left u) (sym (c.as_slice.ensures.value ∙ c.in_ok-left.ensures)) ∙ there)

pub printed_order-requires-clause-whole : goal.printed_order-requires-clause-whole
printed_order-requires-clause-whole c = subst (λ left. IsWhole c.args.members.now left) (sym (c.as_slice.ensures.value ∙ c.in_ok-left.ensures)) (below_whole_of (length c.args.starts.now) c.args.members.now c.requires)

pub all_blocks-requires-clause-once : goal.all_blocks-requires-clause-once
all_blocks-requires-clause-once c =
    let left = c.as_slice.result.now in
    subst (λ order. AreOnce order) (sym (c.as_slice-2.ensures.value ∙ c.in_ok-order.ensures)) (turns-once (length left) (precedes c.args.members.now) left)

pub all_blocks-requires-clause-below : goal.all_blocks-requires-clause-below
all_blocks-requires-clause-below c = λ u there.
    let left = c.as_slice.result.now in
    let among = turns_left (length left) (precedes c.args.members.now) left u (ap (λ ts. stands_in ts u) (sym (c.as_slice-2.ensures.value ∙ c.in_ok-order.ensures)) ∙ there) in
    let below = in_below (length c.args.starts.now) u (ap (λ left. stands_in left u) (sym (c.as_slice.ensures.value ∙ c.in_ok-left.ensures)) ∙ among) in
    omega (arith, below, c.in_ok-groups.ensures.size)

pub returns : goal.returns
returns c =
    let members = c.args.members.now in
    let left = c.as_slice.ensures.value ∙ c.in_ok-left.ensures in
    let order = c.as_slice-2.ensures.value ∙ c.in_ok-order.ensures ∙ ap (λ left. turns (length left) (precedes members) left) left in
    let same = blocks_same members c.in_ok-groups.groups c.as_slice-2.result.now c.in_ok-groups.ensures.firings ∙ ap (map (block_of members)) order in
    IfOk-weaker c.all_blocks.result _ _ (λ blocks are. are ∙ ap (map (started c.args.starts.now)) same) c.all_blocks.ensures
