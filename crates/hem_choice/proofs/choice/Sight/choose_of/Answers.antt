use Rattle.std.proofs.Common.{sym, ◌∙◌}
use Rattle.hem_choice.proofs.Failing.{untried}
use Rattle.hem_choice.proofs.choice.Sight.choose_of.Goals as goal

pub returns-then-not-may_try : goal.returns-then-not-may_try
returns-then-not-may_try c = untried c.args.p.now c.args.kind c.args.local.now c.args.self.now c.args.rule.now (sym c.may_try.ensures ∙ c.if-not-may_try.true)
