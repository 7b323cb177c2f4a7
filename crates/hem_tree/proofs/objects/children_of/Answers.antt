use Rattle.std.proofs.Common.{true, false, sym, ◌∙◌, append-nil}
use Rattle.hem_tree.proofs.Building.{children_step}
use Rattle.hem_tree.proofs.objects.children_of.Goals as goal
use Rattle.hem_tree.proofs.objects.children_of.Goals.{then-is_parent+in_ok-push, else-is_parent}

pub loop-k-preserved : goal.loop-k-preserved
loop-k-preserved c =
    elim c.if-is_parent.branch [
      | then-is_parent+in_ok-push w ↦
          children_step c.args.parents.now c.args.high.0 c.loop-k.k c.loop-k.children c.if-is_parent.children true c.loop-k-test.true (sym w.if-is_parent.true ∙ c.is_parent.ensures) c.loop-k.invariant (w.children-is ∙ w.in_ok-push.ensures.ok)
      | else-is_parent w ↦
          children_step c.args.parents.now c.args.high.0 c.loop-k.k c.loop-k.children c.if-is_parent.children false c.loop-k-test.true (sym w.if-is_parent.false ∙ c.is_parent.ensures) c.loop-k.invariant (w.children-is ∙ sym (append-nil c.loop-k.children))
    ]
