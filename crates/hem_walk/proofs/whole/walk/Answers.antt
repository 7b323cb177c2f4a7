use Rattle.std.proofs.Common.{subst}
use Rattle.std.specs.Prelude.{IfOk}
use Rattle.hem_syntax.specs.Protocol.{Protocol}
use Rattle.hem_system.specs.Ended.{Within, Ended}
use Rattle.hem_walk.proofs.whole.walk.Goals as goal

pub returns-clause-within : goal.returns-clause-within
returns-clause-within c =
    subst (λ (p : Protocol). IfOk c.whole_walk.result (λ w. Within p c.args.tree.now w.journal c.args.work.now.self_count)) c.protocol.ensures.same c.whole_walk.ensures.within

pub returns-clause-ended : goal.returns-clause-ended
returns-clause-ended c =
    subst (λ (p : Protocol). IfOk c.whole_walk.result (λ w. Ended p c.args.tree.now w.journal w.system c.args.work.now.self_count)) c.protocol.ensures.same c.whole_walk.ensures.ended
