use Rattle.std.proofs.Common.{ap, ◌∙◌}
use Rattle.std.specs.Prelude.{slice_get}
use Rattle.std.specs.Option.{option_map_or}
use Rattle.hem_syntax.specs.Protocol.{KindPart, part}
use Rattle.hem_translate.proofs.starts.first_of_field.Goals as goal

pub returns-in-Some : goal.returns-in-Some
returns-in-Some c = c.from-in-Some.ensures ∙ ap (λ f. option_map_or (λ f. f.1.0) f 0) (c.in-Some.ensures ∙ ap (λ (d : KindPart). slice_get d.fields c.from.result) (c.behind-p.view_is ∙ c.part.ensures.part) ∙ ap (slice_get (part c.args.p.now c.args.kind).fields) c.from.ensures)

pub returns-in-None : goal.returns-in-None
returns-in-None c = ap (λ f. option_map_or (λ f. f.1.0) f 0) (c.in-None.ensures ∙ ap (λ (d : KindPart). slice_get d.fields c.from.result) (c.behind-p.view_is ∙ c.part.ensures.part) ∙ ap (slice_get (part c.args.p.now c.args.kind).fields) c.from.ensures)
