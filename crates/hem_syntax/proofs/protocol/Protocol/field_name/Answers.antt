use Rattle.std.proofs.Common.{◌≡◌, ap, ◌∙◌, List}
use Rattle.std.specs.Prelude.{slice_get}
use Rattle.std.specs.Option.{option_map}
use Rattle.hem_base.specs.declared.ids.Status8.{Status8}
use Rattle.hem_syntax.specs.Protocol.{Text}
use Rattle.hem_syntax.proofs.protocol.Protocol.field_name.Goals as goal

pub returns-in-Some-clause-name : goal.returns-in-Some-clause-name
returns-in-Some-clause-name c =
    ap (λ field. option_map (λ (f : Text × Status8). f.0) field) (c.in-Some.ensures ∙ ap (λ (fields : List (Text × Status8)). slice_get fields c.args.place) (ap (λ d. d.fields) c.behind-self.view_is ∙ ap (λ d. d.fields) c.part.ensures.part))

pub returns-in-None-clause-name : goal.returns-in-None-clause-name
returns-in-None-clause-name c =
    ap (λ field. option_map (λ (f : Text × Status8). f.0) field) (c.in-None.ensures ∙ ap (λ (fields : List (Text × Status8)). slice_get fields c.args.place) (ap (λ d. d.fields) c.behind-self.view_is ∙ ap (λ d. d.fields) c.part.ensures.part))
