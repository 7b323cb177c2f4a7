use Rattle.std.proofs.Common.{◌≡◌, ◌++◌, ap, ◌∙◌, subst, OnOk, map}
use Rattle.hem_translate.specs.ByChild.{child_rule}
use Rattle.hem_translate.proofs.Children.{rules_by_child}
use Rattle.hem_translate.proofs.rules.push_by_child.Goals as goal

pub returns : goal.returns
returns c = subst (λ xs. OnOk c.push_each_child.result (c.push_each_child.new.rules ≡ c.args.rules.now ++ xs)) (ap (map (child_rule c.args.l.now c.args.p.now c.args.site.now c.args.rule.now)) c.kids.ensures ∙ rules_by_child c.args.l.now c.args.p.now c.args.site.now c.args.rule.now) c.push_each_child.ensures
