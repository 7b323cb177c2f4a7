use Rattle.std.proofs.Common.{arith, ◌≡◌, ◌+◌}
use Rattle.std.specs.List.{list_all}
use Rattle.hem_worker.specs.Workers.{Worker}
use Rattle.hem_runner.specs.Tally.{is_at_rest, answered_by}
use Rattle.hem_runner.proofs.Passed.{none-left, all-one-passed, all-passed, sum-one-passed, sum-passed}
use Rattle.hem_runner.proofs.tallies.tally_of.Goals as goal

pub loop-worker-preserved : goal.loop-worker-preserved
loop-worker-preserved g c =
    let here = c.loop-worker.worker-iterator.rest.items in
    let next = c.next.new.self.rest.items in
    let worker = c.in-Some.worker in
    let split = c.in-Some.ensures.steps.0 in
    let more : c.in_ok-answers.answers ≡ c.loop-worker.answers + answered_by worker.lines = omega (arith, c.in_ok-answers.ensures, c.in_ok-one.ensures.answers) in (
      all-one-passed (λ (w : Worker). list_all is_at_rest w.lines) here next worker c.loop-worker.quiet c.in_ok-one.one.quiet _ split c.in_ok-one.ensures.quiet c.loop-worker.invariant.0,
      sum-one-passed (λ (w : Worker). answered_by w.lines) here next worker c.loop-worker.answers c.in_ok-answers.answers _ split more c.loop-worker.invariant.1,
    )

pub returns-clause-quiet : goal.returns-clause-quiet
returns-clause-quiet g c =
    let rest = c.loop-worker.worker-iterator.rest in
    all-passed (λ (w : Worker). list_all is_at_rest w.lines) rest.items c.loop-worker.quiet _ (none-left rest.items rest.len rest.ok.0 c.in-None.ensures.steps.0) c.loop-worker.invariant.0

pub returns-clause-answers : goal.returns-clause-answers
returns-clause-answers g c =
    let rest = c.loop-worker.worker-iterator.rest in
    sum-passed (λ (w : Worker). answered_by w.lines) rest.items c.loop-worker.answers _ (none-left rest.items rest.len rest.ok.0 c.in-None.ensures.steps.0) c.loop-worker.invariant.1
