use Rattle.std.proofs.Common.{sym, subst, List}
use Rattle.hem_base.specs.declared.ids.Firing.{Firing}
use Rattle.hem_system.specs.State.{Runs, start}
use Rattle.hem_runner.specs.Runs.{IsRun}
use Rattle.hem_runner.proofs.Histories.{run-ended}
use Rattle.hem_runner.proofs.running.run_work.Goals as goal

pub returns : goal.returns
returns g c =
    let begun = start c.args.p.now c.args.tree.now c.args.work.now in
    subst (λ (h : List Firing). IsRun c.args.p.now c.args.tree.now c.args.work.now h c.in_ok-system.system) (sym c.from_vec.ensures)
    (run-ended c.args.p.now c.args.tree.now c.args.work.now c.in_ok-history.history.items c.in_ok-system.system c.in_ok-history.ensures
    (subst (λ (h : List Firing). Runs c.args.p.now c.args.tree.now begun h c.in_ok-system.system) c.as_slice.ensures.value c.in_ok-system.ensures))
