use Rattle.std.proofs.Common.{◌∙◌, sym, ap, ◌∷◌, [], ◌++◌, add-one}
use Rattle.hem_tree.specs.Tree.{below}
use Rattle.hem_regroup.proofs.blocks.all_below.Goals as goal

pub loop-number-preserved : goal.loop-number-preserved
loop-number-preserved c =
    let number = c.loop-number.number in
    c.in_ok-push.ensures.items ∙ ap (λ ns. ns ++ number ∷ []) c.loop-number.invariant ∙ ap below (sym (add-one number))
