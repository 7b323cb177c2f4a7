use Rattle.std.proofs.Common.{◌∙◌, ap}
use Rattle.std.specs.Prelude.{is_some}
use Rattle.hem_fire.proofs.Parts.{plan-can}
use Rattle.hem_fire.proofs.plan.can.Goals as goal

pub returns : goal.returns
returns c =
    let a = c.args in
    c.is_some.ensures ∙ ap is_some c.of.ensures ∙ plan-can a.p.now a.kind a.rule.now a.me a.local.now a.heads.now
