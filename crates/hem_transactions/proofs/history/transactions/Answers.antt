use Rattle.std.proofs.Common.{◌∙◌, sym, subst, ℕ, List}
use Rattle.hem_system.specs.declared.history.ReplayFault.{ReplayFault}
use Rattle.hem_system.specs.State.{start}
use Rattle.hem_system.specs.Faults.{IsReplayFault}
use Rattle.hem_trace.specs.History.{events}
use Rattle.hem_trace.specs.Laws.{AreNumbersBySenders}
use Rattle.hem_trace.proofs.Senders.{numbers-by-senders}
use Rattle.hem_trace.proofs.SendersOnce.{start-channels}
use Rattle.hem_serial.proofs.Prefixes.{short_throughout}
use Rattle.hem_transactions.specs.Transactions.{FireAtMostThrice}
use Rattle.hem_transactions.proofs.FewFirings.{few_firings}
use Rattle.hem_transactions.proofs.Stops.{runs_whole}
use Rattle.hem_transactions.proofs.history.transactions.Goals as goal

pub returns-in-Ok-clause-by_senders : goal.returns-in-Ok-clause-by_senders
returns-in-Ok-clause-by_senders c =
    let p = c.args.p.now in
    let tree = c.args.tree.now in
    let work = c.args.work.now in
    let h = c.args.history.now in
    let first = start p tree work in
    subst (λ (numbers : List ℕ). AreNumbersBySenders tree (events p tree first h) numbers) (sym (c.into_numbers.ensures ∙ c.in-Ok.ensures.numbers))
    (numbers-by-senders p tree first c.requires.0 h (start-channels p tree work) c.requires.1)

pub returns-in-Ok-clause-lists_stay_short : goal.returns-in-Ok-clause-lists_stay_short
returns-in-Ok-clause-lists_stay_short c = λ s n it. short_throughout c.args.p.now c.args.tree.now c.args.work.now c.args.history.now s n it

pub returns-in-Ok-clause-few_firings : goal.returns-in-Ok-clause-few_firings
returns-in-Ok-clause-few_firings c = λ s it.
    subst (λ (numbers : List ℕ). FireAtMostThrice c.args.history.now numbers) (sym (c.into_numbers.ensures ∙ c.in-Ok.ensures.numbers))
    (few_firings c.args.p.now c.args.tree.now c.args.work.now c.args.history.now s it)

pub returns-in-Err-OutOfMemory-clause-lists_stay_short : goal.returns-in-Err-OutOfMemory-clause-lists_stay_short
returns-in-Err-OutOfMemory-clause-lists_stay_short c = λ s n it. short_throughout c.args.p.now c.args.tree.now c.args.work.now c.args.history.now s n it

pub unreachable-requires : goal.unreachable-requires
unreachable-requires c =
    let p = c.args.p.now in
    let tree = c.args.tree.now in
    let h = c.args.history.now in
    let first = start p tree c.args.work.now in
    runs_whole p tree first c.requires.0 c.in-Err-Illegal.field-0-1 h c.in-Err-Illegal.field-0-0 c.requires.1
    (subst (λ (fault : ReplayFault). IsReplayFault p tree first h fault) c.in-Err-Illegal.field-0-is c.in-Err-Illegal.ensures.refused)
