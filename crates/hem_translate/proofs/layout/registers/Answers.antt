use Rattle.std.proofs.Common.{ap, ◌∙◌, ◌++◌, length, map}
use Rattle.std.specs.List.{flat_map}
use Rattle.hem_tree.specs.Tree.{below}
use Rattle.hem_translate.specs.Places.{reg_of}
use Rattle.hem_translate.specs.ByObject.{object_registers}
use Rattle.hem_translate.proofs.Laid.{registers_laid}
use Rattle.hem_translate.proofs.layout.registers.Goals as goal

pub returns : goal.returns
returns c =
    let p = c.args.p.now in
    let tree = c.args.tree.now in
    c.in_ok-push_objects.ensures
    ∙ ap (λ regs. map reg_of regs ++ flat_map (object_registers p tree) (below (length tree))) c.new-regs.ensures
    ∙ registers_laid p tree
