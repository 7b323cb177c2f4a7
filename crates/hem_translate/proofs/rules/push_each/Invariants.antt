use Rattle.std.proofs.Common.{◌≡◌, ◌++◌, map, drop, length}
use Rattle.std.specs.List.{flat_map}
use Rattle.hem_emit.specs.Emit.{rule_at, named_at}
use Rattle.hem_translate.specs.ByPlace.{rule_by_places}
use Rattle.hem_translate.proofs.rules.push_each.Given as goal

-- the rules so far and those that are left are all
abbrev pub invariant-loop-rule : goal.invariant-loop-rule
invariant-loop-rule l = l.rules ++ flat_map (λ rule. map (rule_by_places l.l) (map (rule_at l.p l.site rule) (named_at l.site.kind rule.take (length l.site.kids)))) (drop l.rule-index l.those) ≡ l.fn.rules ++ flat_map (λ rule. map (rule_by_places l.l) (map (rule_at l.p l.site rule) (named_at l.site.kind rule.take (length l.site.kids)))) l.those
