use Rattle.std.proofs.Common.{◌+◌, sym, subst}
use Rattle.hem_regroup.specs.Members.{IsBelow}
use Rattle.hem_regroup.specs.Graph.{members_before, IsBuilt}
use Rattle.hem_regroup.proofs.graph.Graph.of.Goals as goal

pub add-requires-clause-below : goal.add-requires-clause-below
add-requires-clause-below c = subst (λ count. IsBelow count c.args.members.now) (sym c.loop-place.invariant.tables.nexts_size) c.requires

pub add-requires-clause-built : goal.add-requires-clause-built
add-requires-clause-built c =
    let graph = c.loop-place.graph in
    subst (λ count. IsBuilt count (members_before c.loop-place.place c.args.members.now) graph.nexts graph.counts.items c.loop-place.last) (sym c.loop-place.invariant.tables.nexts_size) c.loop-place.invariant

pub loop-place-preserved : goal.loop-place-preserved
loop-place-preserved c = subst (λ count. IsBuilt count (members_before (c.loop-place.place + 1) c.args.members.now) c.add.new.self.nexts c.add.new.self.counts.items c.add.new.last) c.loop-place.invariant.tables.nexts_size c.in_ok-add.ensures
