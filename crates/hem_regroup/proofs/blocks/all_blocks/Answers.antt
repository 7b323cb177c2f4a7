use Rattle.std.proofs.Common.{◌<◌, length, get_or, arith, rules}
use Rattle.hem_regroup.proofs.Released.{in_at}
use Rattle.hem_regroup.proofs.Grouped.{same_list}
use Rattle.hem_regroup.proofs.OutOnce.{taken_more}
use Rattle.hem_regroup.proofs.blocks.all_blocks.Goals as goal

pub take_out-firings-requires : goal.take_out-firings-requires
take_out-firings-requires c =
    let below = c.requires.below (get_or c.args.order.now c.loop-rank.rank-index 0) (in_at c.args.order.now c.loop-rank.rank-index c.loop-rank-test.true) in
    omega (arith, below, c.loop-rank.invariant.size)

pub bounds-starts-rank : goal.bounds-starts-rank
bounds-starts-rank c =
    let below = c.requires.below (get_or c.args.order.now c.loop-rank.rank-index 0) (in_at c.args.order.now c.loop-rank.rank-index c.loop-rank-test.true) in
    let each = c.requires.each in
    omega (arith, below, each)

pub offset_bounds-starts-rank : goal.offset_bounds-starts-rank
offset_bounds-starts-rank c =
    let rank = get_or c.args.order.now c.loop-rank.rank-index 0 in
    let below = c.requires.below rank (in_at c.args.order.now c.loop-rank.rank-index c.loop-rank-test.true) in
    let each = c.requires.each in
    let within : rank < length c.args.starts.now = omega (arith, below, each) in
    search (rules, within)

pub loop-rank-preserved : goal.loop-rank-preserved
loop-rank-preserved c =
    taken_more c.args.starts.now c.args.groups c.args.order.now c.loop-rank.rank-index c.loop-rank.groups c.take_out-firings.new.lists c.loop-rank.blocks.items c.push.new.self.items c.take_out-firings.result c.requires.once c.loop-rank-test.true c.loop-rank.invariant c.take_out-firings.ensures.taken (λ t other. same_list c.loop-rank.groups c.take_out-firings.new.lists t (c.take_out-firings.ensures.others t other)) c.take_out-firings.ensures.size c.in_ok-push.ensures.items
