use Rattle.std.proofs.Common.{sym, ◌∙◌}
use Rattle.hem_choice.proofs.Failing.{unasked}
use Rattle.hem_choice.proofs.choice.Sight.choose_alone.Goals as goal

pub returns-then-not-asks_alone : goal.returns-then-not-asks_alone
returns-then-not-asks_alone c = unasked c.args.p.now c.args.kind c.args.local.now c.args.self.now c.args.rule.now (sym c.asks_alone.ensures ∙ c.if-not-asks_alone.true)
