use Rattle.std.proofs.Common.{None, arith}
use Rattle.std.proofs.lemmas.Option.{slice_get-get_or}
use Rattle.hem_base.specs.declared.ids.Kind.TheVariants.{Root}
use Rattle.hem_tree.specs.declared.raw.RawNode.{RawNode}
use Rattle.hem_tree.proofs.Lawful.{length_tree}
use Rattle.hem_tree.proofs.Building.{object_made}
use Rattle.hem_tree.proofs.objects.object_at.Goals as goal

abbrev no_node : RawNode
no_node = record { kind = Root; level = 0; place = record { line = 0; column = 0 } }

pub overflow_cast-k : goal.overflow_cast-k
overflow_cast-k c = omega (arith, length_tree c.args.nodes.now, c.requires.parents.few, c.requires.within)

pub children_of-requires : goal.children_of-requires
children_of-requires c = omega (arith, c.requires.parents.few, c.requires.parents.all)

pub bounds-parents-k : goal.bounds-parents-k
bounds-parents-k c = omega (arith, length_tree c.args.nodes.now, c.requires.parents.all, c.requires.within)

pub returns : goal.returns
returns c =
    object_made c.args.nodes.now c.requires.raw c.args.k _ (slice_get-get_or c.args.nodes.now c.args.k no_node c.requires.within) c.args.parents.now c.requires.parents _ c.in_ok-children.children
    (slice_get-get_or c.args.parents.now c.args.k None (omega (arith, length_tree c.args.nodes.now, c.requires.parents.all, c.requires.within))) c.in_ok-children.ensures
