use Rattle.std.proofs.Common.{sym, ◌∙◌}
use Rattle.hem_check.proofs.FirstFound.{upward-found, other-found}
use Rattle.hem_check.proofs.first.broken_rule.Goals as goal

pub returns-then-sends_up : goal.returns-then-sends_up
returns-then-sends_up c =
    c.unstable_finding.ensures
    ∙ upward-found c.args.p.now c.args.kind c.args.rule.now c.in-Ok.name c.unstable.result (sym c.template.ensures ∙ c.in-Ok.is) (sym c.sends_up.ensures ∙ c.if-sends_up.true) c.unstable.ensures

pub returns-else-sends_up : goal.returns-else-sends_up
returns-else-sends_up c =
    other-found c.args.p.now c.args.kind c.args.rule.now c.in-Ok.name (sym c.template.ensures ∙ c.in-Ok.is) (sym c.sends_up.ensures ∙ c.if-sends_up.false)
