use Rattle.std.proofs.Common.{sym}
use Rattle.hem_system.proofs.Effects.{own_effect-is}
use Rattle.hem_system.proofs.possible.look_up.Goals as goal

pub returns-clause-effect : goal.returns-clause-effect
returns-clause-effect c local heads =
    own_effect-is c.args.p.now c.args.tree.now c.args.firing c.kind-kind.result c.in_ok-rule.rule.now c.in_ok-me.me local heads c.kind-kind.ensures (sym c.in_ok-rule.ensures) (sym c.in_ok-me.ensures)
