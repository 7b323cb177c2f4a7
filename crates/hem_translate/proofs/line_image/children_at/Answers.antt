use Rattle.std.proofs.Common.{arith}
use Rattle.hem_translate.proofs.OnLine.{no_children}
use Rattle.hem_translate.proofs.line_image.children_at.Goals as goal

pub returns-else-o-objects : goal.returns-else-o-objects
returns-else-o-objects c =
    let far = c.if-o-objects.false in
    let count = c.objects.ensures.count in
    no_children c.args.tree.now c.args.o c.objects.ensures.lawful (omega (arith, far, count))
