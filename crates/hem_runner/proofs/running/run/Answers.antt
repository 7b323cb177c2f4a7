use Rattle.std.proofs.Common.{subst, ◌+◌, ◌*◌, ◌≤◌, length}
use Rattle.hem_syntax.specs.Protocol.{Protocol}
use Rattle.hem_system.specs.State.{Runs, start}
use Rattle.hem_system.specs.Ended.{Within, Ended}
use Rattle.hem_bound.specs.Starts.{requests_in}
use Rattle.hem_runner.specs.Runs.{IsRun}
use Rattle.hem_runner.proofs.Histories.{if-ok-more, run-few}
use Rattle.hem_runner.proofs.running.run.Goals as goal

pub returns-clause-runs : goal.returns-clause-runs
returns-clause-runs g c =
    if-ok-more (λ r. IsRun c.protocol.result.now c.args.tree.now c.args.work.now r.journal r.system) (λ r. Runs c.args.a.now c.args.tree.now (start c.args.a.now c.args.tree.now c.args.work.now) r.journal r.system) c.run_work.result
    (λ r is. subst (λ (p : Protocol). Runs p c.args.tree.now (start p c.args.tree.now c.args.work.now) r.journal r.system) c.protocol.ensures.same is.runs)
    c.run_work.ensures

pub returns-clause-within : goal.returns-clause-within
returns-clause-within g c =
    if-ok-more (λ r. IsRun c.protocol.result.now c.args.tree.now c.args.work.now r.journal r.system) (λ r. Within c.args.a.now c.args.tree.now r.journal c.args.work.now.self_count) c.run_work.result
    (λ r is. subst (λ (p : Protocol). Within p c.args.tree.now r.journal c.args.work.now.self_count) c.protocol.ensures.same is.within)
    c.run_work.ensures

pub returns-clause-ended : goal.returns-clause-ended
returns-clause-ended g c =
    if-ok-more (λ r. IsRun c.protocol.result.now c.args.tree.now c.args.work.now r.journal r.system) (λ r. Ended c.args.a.now c.args.tree.now r.journal r.system c.args.work.now.self_count) c.run_work.result
    (λ r is. subst (λ (p : Protocol). Ended p c.args.tree.now r.journal r.system c.args.work.now.self_count) c.protocol.ensures.same is.ended)
    c.run_work.ensures

pub returns-clause-few : goal.returns-clause-few
returns-clause-few g c =
    if-ok-more (λ r. IsRun c.protocol.result.now c.args.tree.now c.args.work.now r.journal r.system) (λ r. length r.journal ≤ 3 * length c.args.tree.now * (requests_in c.args.tree.now c.args.work.now + c.args.work.now.lines * (length c.args.tree.now * c.args.work.now.self_count))) c.run_work.result
    (λ r is. run-few c.protocol.result.now c.args.tree.now c.args.work.now r.journal r.system c.protocol.ensures.disciplined c.objects-objects.ensures.lawful is)
    c.run_work.ensures
