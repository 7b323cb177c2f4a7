use Rattle.std.proofs.Common.{subst}
use Rattle.hem_system.specs.declared.history.ReplayFault.{ReplayFault}
use Rattle.hem_system.specs.State.{start}
use Rattle.hem_system.specs.Faults.{IsReplayFault}
use Rattle.hem_transactions.proofs.Stops.{runs_whole}
use Rattle.hem_runner.proofs.running.state_after.Goals as goal

pub unreachable-requires : goal.unreachable-requires
unreachable-requires c =
    let begun = start c.args.p.now c.args.tree.now c.args.work.now in
    runs_whole c.args.p.now c.args.tree.now begun c.requires.state c.in-Err-Illegal.field-0-1 c.args.history.now c.in-Err-Illegal.field-0-0 c.requires.is.runs
    (subst (λ (fault : ReplayFault). IsReplayFault c.args.p.now c.args.tree.now begun c.args.history.now fault) c.in-Err-Illegal.field-0-is c.in-Err-Illegal.ensures.illegal)
