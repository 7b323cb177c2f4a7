use Rattle.std.proofs.Common.{sym, subst, List}
use Rattle.hem_system.specs.State.{start}
use Rattle.hem_worker.specs.Workers.{Worker}
use Rattle.hem_runner.specs.Rounds.{IsAtEnd}
use Rattle.hem_runner.specs.Runs.{channel_slots}
use Rattle.hem_runner.proofs.Ending.{crew-left}
use Rattle.hem_runner.proofs.whole.crew_at_end.Goals as goal

pub returns : goal.returns
returns g c =
    subst (λ (crew : List Worker). IsAtEnd c.args.p.now c.args.tree.now (start c.args.p.now c.args.tree.now c.args.work.now) c.args.work.now.self_count channel_slots crew)
    (sym (crew-left c.args.p.now c.args.tree.now c.args.work.now channel_slots c.in_ok-crew.crew.len c.in_ok-crew.crew.items c.run_crew.new.crew c.in_ok-crew.crew.ok.0 c.in_ok-crew.ensures c.in_ok-run_crew.ensures))
    c.in_ok-run_crew.ensures
