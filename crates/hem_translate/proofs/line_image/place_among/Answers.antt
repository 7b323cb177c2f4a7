use Rattle.std.proofs.Common.{ap, ◌∙◌}
use Rattle.std.specs.Prelude.{unwrap_or}
use Rattle.hem_translate.proofs.OnLine.{place_found}
use Rattle.hem_translate.proofs.line_image.place_among.Goals as goal

pub returns : goal.returns
returns c = c.unwrap_or.ensures ∙ ap (λ o. unwrap_or o 0) (c.place_in.ensures ∙ place_found c.args.tree.now c.args.parent.0 c.args.c c.children_at.result.now c.children_at.ensures c.requires)
