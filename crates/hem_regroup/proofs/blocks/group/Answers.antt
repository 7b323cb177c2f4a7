use Rattle.std.proofs.Common.{◌∙◌, arith}
use Rattle.hem_regroup.proofs.Tables.{no_member, below-at}
use Rattle.hem_regroup.proofs.Grouped.{grouped_more}
use Rattle.hem_regroup.proofs.blocks.group.Goals as goal

pub append-requires : goal.append-requires
append-requires c =
    let below = below-at c.args.count c.args.members.now c.loop-member.member-index no_member c.loop-member-test.true c.requires in
    omega (arith, below, c.loop-member.invariant.size)

pub loop-member-preserved : goal.loop-member-preserved
loop-member-preserved c =
    record {
      size = c.in_ok-append.ensures.size ∙ c.loop-member.invariant.size;
      firings = grouped_more c.args.members.now c.loop-member.member-index no_member c.loop-member.groups c.append.new.lists c.loop-member-test.true c.loop-member.invariant.firings c.in_ok-append.ensures.there c.in_ok-append.ensures.others;
    }
