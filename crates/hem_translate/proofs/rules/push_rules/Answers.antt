use Rattle.std.proofs.Common.{◌≡◌, ◌++◌, ap, sym, ◌∙◌, subst, OnOk, map, length, true}
use Rattle.std.specs.List.{flat_map, list_all}
use Rattle.std.specs.Prelude.{nat_lt}
use Rattle.hem_syntax.specs.Protocol.{KindPart, part}
use Rattle.hem_emit.specs.Emit.{rule_at, named_at}
use Rattle.hem_translate.specs.ByPlace.{rule_by_places}
use Rattle.hem_translate.proofs.RuleNames.{kind_named}
use Rattle.hem_translate.proofs.rules.push_rules.Goals as goal

pub push_all-requires : goal.push_all-requires
push_all-requires c =
    let those = c.as_slice.ensures ∙ ap (λ (d : KindPart). d.rules) c.part.view_is ∙ ap (λ (d : KindPart). d.rules) c.part-part.ensures.part in
    subst (λ rs. list_all (λ r. nat_lt r.name.0 (length c.args.p.now.rule_names)) rs ≡ true) (sym those) (kind_named c.args.p.now c.kind.result c.part-part.ensures.lawful)

pub returns : goal.returns
returns c =
    let p = c.args.p.now in
    let at = c.args.site.now in
    let those = c.as_slice.ensures ∙ ap (λ (d : KindPart). d.rules) c.part.view_is ∙ ap (λ (d : KindPart). d.rules) c.part-part.ensures.part ∙ ap (λ k. (part p k).rules) c.kind.ensures in
    subst (λ xs. OnOk c.push_all.result (c.push_all.new.rules ≡ c.args.rules.now ++ xs)) (ap (λ rs. map (rule_by_places c.args.l.now) (flat_map (λ rule. map (rule_at p at rule) (named_at at.kind rule.take (length at.kids))) rs)) those) c.push_all.ensures
