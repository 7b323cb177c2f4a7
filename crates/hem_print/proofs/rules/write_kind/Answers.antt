use Rattle.std.proofs.Common.{sym, ◌∙◌, ap, subst, List, ℕ, map}
use Rattle.std.specs.Prelude.{IsTrue}
use Rattle.std.specs.List.{list_all}
use Rattle.hem_base.specs.declared.ids.Status8.{Status8}
use Rattle.hem_syntax.specs.Lawful.{is_declarable}
use Rattle.hem_syntax.proofs.DeclaredNames.{fields_declarable}
use Rattle.hem_print.proofs.rules.write_kind.Goals as goal

pub write_fields-requires : goal.write_fields-requires
write_fields-requires c =
    subst (λ (fields : List (List ℕ × Status8)). IsTrue (list_all is_declarable (map (λ f. f.0) fields)))
    (sym (c.as_slice.ensures ∙ ap (λ d. d.fields) c.part.view_is ∙ ap (λ d. d.fields) c.part-part.ensures.part))
    (fields_declarable c.args.p.now c.args.kind c.part-part.ensures.lawful)
