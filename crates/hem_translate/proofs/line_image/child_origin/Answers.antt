use Rattle.std.proofs.Common.{ap, ◌∙◌, ◌+◌}
use Rattle.hem_translate.proofs.OnLine.{number_there}
use Rattle.hem_translate.proofs.line_image.child_origin.Goals as goal

pub returns : goal.returns
returns c = ap (λ n. 3 + n) (c.from.ensures ∙ c.child_number.ensures ∙ number_there c.args.children.now c.args.place)
