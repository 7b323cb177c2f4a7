use Rattle.hem_cases.proofs.Planned.{planned_names}
use Rattle.hem_cases.proofs.firings.fired.Goals as goal

pub fire-requires : goal.fire-requires
fire-requires c = planned_names c.args.p.now c.args.kind c.args.rule.now c.args.child c.args.local.now c.args.heads.now c.in_ok-plan.plan c.in_ok-plan.ensures
