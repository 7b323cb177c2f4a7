use Rattle.hem_tree.specs.Raw.{tree_of}
use Rattle.hem_tree.proofs.Building.{no_objects, objects_more, all_made}
use Rattle.hem_tree.proofs.objects.objects_of.Goals as goal

pub loop-k-init : goal.loop-k-init
loop-k-init c = rw c.new-objects.ensures (no_objects (tree_of c.args.nodes.now))

pub loop-k-preserved : goal.loop-k-preserved
loop-k-preserved c = objects_more (tree_of c.args.nodes.now) c.loop-k.k c.loop-k.objects c.push.new.self c.in_ok-object.object c.loop-k.invariant c.in_ok-object.ensures c.in_ok-push.ensures.ok

pub returns-clause-objects : goal.returns-clause-objects
returns-clause-objects c = all_made c.args.nodes.now c.requires c.in_ok-parents.parents c.in_ok-parents.ensures.parents c.loop-k.k c.loop-k.objects c.loop-k-test.false c.loop-k.auto.k-end c.loop-k.invariant
