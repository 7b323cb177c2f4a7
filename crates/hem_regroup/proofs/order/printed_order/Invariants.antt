use Rattle.std.proofs.Common.{[]}
use Rattle.hem_regroup.specs.Links.{links, backwards}
use Rattle.hem_regroup.specs.Ready.{IsInTurn}
use Rattle.hem_regroup.proofs.order.printed_order.Given as goal

abbrev pub invariant-loop-turn : goal.invariant-loop-turn
invariant-loop-turn l = IsInTurn (links (backwards [] l.members)) l.left l._turn l.out.items l.followers.items l.counts.items l.ready
