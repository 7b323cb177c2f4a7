use Rattle.std.proofs.Common.{◌≡◌, ◌++◌, ◌∷◌, [], subst, OnOk, Some}
use Rattle.hem_emit.specs.Emit.{rule_at}
use Rattle.hem_translate.specs.ByChild.{child_rule}
use Rattle.hem_translate.specs.ByPlace.{rule_by_places}
use Rattle.hem_translate.proofs.rules.push_for_child.Goals as goal

pub returns : goal.returns
unfolding child_rule
returns c = subst (λ k. OnOk c.push_rule.result (c.push_rule.new.rules ≡ c.args.rules.now ++ rule_by_places c.args.l.now (rule_at c.args.p.now c.args.site.now c.args.rule.now (Some k)) ∷ [])) c.place.ensures c.push_rule.ensures
