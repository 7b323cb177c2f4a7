use Rattle.std.proofs.Common.{sym, ◌∙◌}
use Rattle.std.proofs.lemmas.Option.{slice_get-get_or}
use Rattle.hem_base.specs.declared.ids.Kind.TheVariants.{Root}
use Rattle.hem_tree.specs.declared.raw.RawNode.{RawNode}
use Rattle.hem_tree.proofs.Building.{fault_here, parents_more, no_parents, all_parents}
use Rattle.hem_tree.proofs.objects.parents_of.Goals as goal

abbrev no_node : RawNode
no_node = record { kind = Root; level = 0; place = record { line = 0; column = 0 } }

pub returns-in-Some-clause-refused : goal.returns-in-Some-clause-refused
returns-in-Some-clause-refused c =
    fault_here c.args.nodes.now c.requires c.loop-k.k c.loop-k.parents c.loop-k.invariant _ (slice_get-get_or c.args.nodes.now c.loop-k.k no_node c.loop-k-test.true) c.loop-k-test.true c.nearest_above-parent.result c.nearest_above-parent.ensures _
    (sym (rw c.as_slice.ensures at c.limit_passed.ensures) ∙ c.in-Some.is)

pub loop-k-preserved : goal.loop-k-preserved
loop-k-preserved c =
    parents_more c.args.nodes.now c.requires c.loop-k.k c.loop-k.parents c.loop-k.invariant _ (slice_get-get_or c.args.nodes.now c.loop-k.k no_node c.loop-k-test.true) c.loop-k-test.true c.nearest_above-parent.result c.nearest_above-parent.ensures
    c.push.new.self (sym (rw c.as_slice.ensures at c.limit_passed.ensures) ∙ c.in_default.is) c.in_ok-push.ensures.ok

pub loop-k-init : goal.loop-k-init
loop-k-init c = rw c.new-parents.ensures (no_parents c.args.nodes.now)

pub returns-clause-parents : goal.returns-clause-parents
returns-clause-parents c = all_parents c.args.nodes.now c.loop-k.k c.loop-k.parents c.loop-k-test.false c.loop-k.auto.k-end c.loop-k.invariant
