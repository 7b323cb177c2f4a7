use Rattle.std.proofs.Common.{◌≡◌, subst, IfOk}
use Rattle.hem_emit.specs.Written.{state_of}
use Rattle.hem_translate.specs.Lines.{line_at}
use Rattle.hem_translate.proofs.line_image.image.Goals as goal

pub returns : goal.returns
returns c = subst (λ p. IfOk c.image_on.result (λ m. m ≡ state_of p c.args.tree.now (line_at c.args.s.now c.args.line.0))) c.protocol.ensures.same c.image_on.ensures
