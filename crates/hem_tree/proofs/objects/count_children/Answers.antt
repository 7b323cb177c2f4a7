use Rattle.std.proofs.Common.{true, false, sym, ◌∙◌, arith}
use Rattle.hem_tree.proofs.Building.{count_step}
use Rattle.hem_tree.proofs.objects.count_children.Goals as goal
use Rattle.hem_tree.proofs.objects.count_children.Goals.{then-is_parent, else-is_parent}

pub loop-k-preserved : goal.loop-k-preserved
loop-k-preserved c =
    elim c.if-is_parent.branch [
      | then-is_parent w ↦ record {
        counted = count_step c.args.parents.now c.args.high.0 c.loop-k.k c.loop-k.count c.if-is_parent.count true c.loop-k-test.true (sym w.if-is_parent.true ∙ c.is_parent.ensures) c.loop-k.invariant.counted (omega (arith, w.count-is));
        few = omega (arith, w.count-is);
      }
      | else-is_parent w ↦ record {
        counted = count_step c.args.parents.now c.args.high.0 c.loop-k.k c.loop-k.count c.if-is_parent.count false c.loop-k-test.true (sym w.if-is_parent.false ∙ c.is_parent.ensures) c.loop-k.invariant.counted (omega (arith, w.count-is));
        few = omega (arith, w.count-is);
      }
    ]
