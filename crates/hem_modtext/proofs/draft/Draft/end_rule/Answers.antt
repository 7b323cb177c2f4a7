use Rattle.std.proofs.Common.{◌≡◌, ◌∙◌, ◌++◌, ◌∷◌, [], ap, sym, subst, true, false, not, List, None}
use Rattle.hem_syntax.specs.Names.{set_last}
use Rattle.hem_module.specs.declared.rules.ModRule.{ModRule}
use Rattle.hem_modtext.specs.declared.key.RuleKey.{RuleKey}
use Rattle.hem_modtext.specs.Draft.{Read, is_twice, key_with}
use Rattle.hem_modtext.specs.Sound.{IsSound}
use Rattle.hem_modtext.specs.contracts.draft.Draft.{the_view}
use Rattle.hem_modtext.proofs.Small.{is_not}
use Rattle.hem_modtext.proofs.Lists.{set_of}
use Rattle.hem_modtext.proofs.Kept.{finished}
use Rattle.hem_modtext.proofs.draft.Draft.end_rule.Goals as goal

pub invariant_of-self-2 : goal.invariant_of-self-2
invariant_of-self-2 c =
    let e = the_view c.self.inside in
    let fresh = is_not (is_twice e) (subst (λ (d : Read). not (is_twice d) ≡ true) (sym c.self.view_is) c.requires) in
    let rule : ModRule = record { object = e.object; name = c.copy_of-name.result; from = e.from; spontaneous = e.spontaneous; clauses = c.taken.result; actions = c.taken-2.result } in
    let filled = c.set_last.ensures ∙ ap (λ (rs : List ModRule). set_last rs rule) c.in_ok-push.ensures.ok ∙ set_of e.rules _ rule in
    let rules = filled ∙ (λ i. e.rules ++ record { object = e.object; name = c.copy_of-name.ensures i; from = e.from; spontaneous = e.spontaneous; clauses = c.taken.ensures.all i; actions = c.taken-2.ensures.all i } ∷ []) in
    let keys = c.add_key.ensures ∙ ap (λ (ks : List RuleKey). ks ++ c.key_with-key.result ∷ []) c.in_ok-make_room.ensures.same ∙ ap (λ (k : RuleKey). e.keys ++ k ∷ []) (c.key_with-key.ensures ∙ ap (λ (d : Read). key_with d e.from) (sym c.self.view_is)) in
    subst IsSound (sym (λ i. record e { rules = rules i; keys = keys i; from = None; spontaneous = false; clauses = c.taken.ensures.none i; actions = c.taken-2.ensures.none i })) (finished e c.self.invariant fresh)
