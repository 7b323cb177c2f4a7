use Rattle.std.proofs.Common.{◌≡◌, ◌++◌, subst, OnOk, map, length}
use Rattle.hem_emit.specs.Emit.{rule_at, named_at}
use Rattle.hem_translate.specs.ByPlace.{rule_by_places}
use Rattle.hem_translate.proofs.Statuses.{map_spread}
use Rattle.hem_translate.proofs.rules.push_all.Goals as goal

pub returns : goal.returns
returns c = subst (λ xs. OnOk c.push_each.result (c.push_each.new.rules ≡ c.args.rules.now ++ xs)) (map_spread (rule_by_places c.args.l.now) (λ rule. map (rule_at c.args.p.now c.args.site.now rule) (named_at c.args.site.now.kind rule.take (length c.args.site.now.kids))) c.args.those.now) c.push_each.ensures
