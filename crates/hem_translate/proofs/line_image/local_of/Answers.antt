use Rattle.std.proofs.Common.{◌≤◌, length, arith}
use Rattle.hem_translate.specs.Lines.{line_at}
use Rattle.hem_translate.proofs.OnLine.{local_there, no_local}
use Rattle.hem_translate.proofs.line_image.local_of.Goals as goal

pub returns-then-o-objects : goal.returns-then-o-objects
returns-then-o-objects c = local_there c.args.s.now c.args.line.0 c.args.o c.local.result.now c.requires c.local.ensures

pub returns-else-o-objects : goal.returns-else-o-objects
returns-else-o-objects c =
    let far = c.if-o-objects.false in
    let count = c.objects.ensures in
    let past : length (line_at c.args.s.now c.args.line.0) ≤ c.args.o = omega (arith, far, count) in
    no_local (line_at c.args.s.now c.args.line.0) c.args.o past
