use Rattle.std.proofs.Common.{subst}
use Rattle.hem_system.specs.declared.history.ReplayFault.{ReplayFault}
use Rattle.hem_system.specs.State.{start}
use Rattle.hem_system.specs.Faults.{IsReplayFault}
use Rattle.hem_serial.proofs.Ordered.{normal_runs, together, three, agree, ranks}
use Rattle.hem_transactions.proofs.Stops.{runs_whole}
use Rattle.hem_regroup.proofs.Handed.{history_of}
use Rattle.hem_regroup.proofs.regrouping.regroup.Goals as goal

pub returns-in-Ok-clause-normal_order_runs : goal.returns-in-Ok-clause-normal_order_runs
returns-in-Ok-clause-normal_order_runs g c =
    let a = c.args.a.now in
    let tree = c.args.tree.now in
    let work = c.args.work.now in
    let h = c.args.history.now in
    λ s runs. normal_runs a tree work h s (history_of a tree work h s c.known.ensures.protocol c.known.ensures.disciplined c.known.ensures.shape runs)

pub returns-in-Ok-clause-transactions_stand_together : goal.returns-in-Ok-clause-transactions_stand_together
returns-in-Ok-clause-transactions_stand_together g c =
    let a = c.args.a.now in
    let tree = c.args.tree.now in
    let work = c.args.work.now in
    let h = c.args.history.now in
    λ l. together a tree work h c.requires.0 l (history_of a tree work h c.requires.0 c.known.ensures.protocol c.known.ensures.disciplined c.known.ensures.shape c.requires.1)

pub returns-in-Ok-clause-at_most_thrice : goal.returns-in-Ok-clause-at_most_thrice
returns-in-Ok-clause-at_most_thrice g c =
    let a = c.args.a.now in
    let tree = c.args.tree.now in
    let work = c.args.work.now in
    let h = c.args.history.now in
    λ l. three a tree work h c.requires.0 l (history_of a tree work h c.requires.0 c.known.ensures.protocol c.known.ensures.disciplined c.known.ensures.shape c.requires.1)

pub returns-in-Ok-clause-parents_and_children_agree : goal.returns-in-Ok-clause-parents_and_children_agree
returns-in-Ok-clause-parents_and_children_agree g c =
    let a = c.args.a.now in
    let tree = c.args.tree.now in
    let work = c.args.work.now in
    let h = c.args.history.now in
    record { same = λ l o high t u. agree a tree work h c.requires.0 l o high t u (history_of a tree work h c.requires.0 c.known.ensures.protocol c.known.ensures.disciplined c.known.ensures.shape c.requires.1) }

pub returns-in-Ok-clause-no_circle : goal.returns-in-Ok-clause-no_circle
returns-in-Ok-clause-no_circle g c =
    let a = c.args.a.now in
    let tree = c.args.tree.now in
    let work = c.args.work.now in
    let h = c.args.history.now in
    ranks a tree work h c.requires.0 (history_of a tree work h c.requires.0 c.known.ensures.protocol c.known.ensures.disciplined c.known.ensures.shape c.requires.1)

pub returns-in-Err-OutOfMemory-clause-normal_order_runs : goal.returns-in-Err-OutOfMemory-clause-normal_order_runs
returns-in-Err-OutOfMemory-clause-normal_order_runs g c =
    let a = c.args.a.now in
    let tree = c.args.tree.now in
    let work = c.args.work.now in
    let h = c.args.history.now in
    λ s runs. normal_runs a tree work h s (history_of a tree work h s c.known.ensures.protocol c.known.ensures.disciplined c.known.ensures.shape runs)

pub returns-in-Err-OutOfMemory-clause-transactions_stand_together : goal.returns-in-Err-OutOfMemory-clause-transactions_stand_together
returns-in-Err-OutOfMemory-clause-transactions_stand_together g c =
    let a = c.args.a.now in
    let tree = c.args.tree.now in
    let work = c.args.work.now in
    let h = c.args.history.now in
    λ l. together a tree work h c.requires.0 l (history_of a tree work h c.requires.0 c.known.ensures.protocol c.known.ensures.disciplined c.known.ensures.shape c.requires.1)

pub returns-in-Err-OutOfMemory-clause-at_most_thrice : goal.returns-in-Err-OutOfMemory-clause-at_most_thrice
returns-in-Err-OutOfMemory-clause-at_most_thrice g c =
    let a = c.args.a.now in
    let tree = c.args.tree.now in
    let work = c.args.work.now in
    let h = c.args.history.now in
    λ l. three a tree work h c.requires.0 l (history_of a tree work h c.requires.0 c.known.ensures.protocol c.known.ensures.disciplined c.known.ensures.shape c.requires.1)

pub returns-in-Err-OutOfMemory-clause-parents_and_children_agree : goal.returns-in-Err-OutOfMemory-clause-parents_and_children_agree
returns-in-Err-OutOfMemory-clause-parents_and_children_agree g c =
    let a = c.args.a.now in
    let tree = c.args.tree.now in
    let work = c.args.work.now in
    let h = c.args.history.now in
    record { same = λ l o high t u. agree a tree work h c.requires.0 l o high t u (history_of a tree work h c.requires.0 c.known.ensures.protocol c.known.ensures.disciplined c.known.ensures.shape c.requires.1) }

pub returns-in-Err-OutOfMemory-clause-no_circle : goal.returns-in-Err-OutOfMemory-clause-no_circle
returns-in-Err-OutOfMemory-clause-no_circle g c =
    let a = c.args.a.now in
    let tree = c.args.tree.now in
    let work = c.args.work.now in
    let h = c.args.history.now in
    ranks a tree work h c.requires.0 (history_of a tree work h c.requires.0 c.known.ensures.protocol c.known.ensures.disciplined c.known.ensures.shape c.requires.1)

pub unreachable-requires : goal.unreachable-requires
unreachable-requires g c =
    let a = c.args.a.now in
    let tree = c.args.tree.now in
    let h = c.args.history.now in
    let first = start a tree c.args.work.now in
    runs_whole a tree first c.requires.0 c.in-Err-Illegal.field-0-1 h c.in-Err-Illegal.field-0-0 c.requires.1
    (subst (λ (fault : ReplayFault). IsReplayFault a tree first h fault) c.in-Err-Illegal.field-0-is c.in-Err-Illegal.ensures.refused)
