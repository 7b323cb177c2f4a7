use Rattle.std.proofs.Common.{sym, ◌∙◌}
use Rattle.hem_choice.proofs.Failing.{unasked_child}
use Rattle.hem_choice.proofs.choice.Sight.choose_for.Goals as goal

pub returns-then-not-asks_child : goal.returns-then-not-asks_child
returns-then-not-asks_child c = unasked_child c.args.p.now c.args.kind c.args.local.now c.args.self.now c.args.rule.now c.args.place (sym c.asks_child.ensures ∙ c.if-not-asks_child.true)
