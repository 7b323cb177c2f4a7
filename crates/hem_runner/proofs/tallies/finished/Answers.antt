use Rattle.std.proofs.Common.{arith, ap, ◌≡◌, ◌+◌, length}
use Rattle.hem_turns.specs.OnLine.{OnLine}
use Rattle.hem_runner.specs.Tally.{is_at_rest}
use Rattle.hem_runner.proofs.Passed.{none-left, all-one-passed, all-passed, sum-one-passed, sum-passed}
use Rattle.hem_runner.proofs.tallies.finished.Goals as goal

pub loop-line-preserved : goal.loop-line-preserved
loop-line-preserved g c =
    let here = c.loop-line.line-iterator.rest.items in
    let next = c.next.new.self.rest.items in
    let line = c.in-Some.line in
    let split = c.in-Some.ensures.steps.0 in
    let seen = ap (λ (line : OnLine). length line.answers) c.line.view_is in
    let more : c.in_ok-answers.answers ≡ c.loop-line.answers + length line.answers = omega (arith, c.in_ok-answers.ensures, c.len.ensures, c.line.inside.answers.ok.0, seen) in (
      all-one-passed is_at_rest here next line c.loop-line.quiet c.is_at_rest-quiet.result _ split c.is_at_rest-quiet.ensures c.loop-line.invariant.0,
      sum-one-passed (λ (line : OnLine). length line.answers) here next line c.loop-line.answers c.in_ok-answers.answers _ split more c.loop-line.invariant.1,
    )

pub returns-clause-quiet : goal.returns-clause-quiet
returns-clause-quiet g c =
    let rest = c.loop-line.line-iterator.rest in
    all-passed is_at_rest rest.items c.loop-line.quiet _ (none-left rest.items rest.len rest.ok.0 c.in-None.ensures.steps.0) c.loop-line.invariant.0

pub returns-clause-answers : goal.returns-clause-answers
returns-clause-answers g c =
    let rest = c.loop-line.line-iterator.rest in
    sum-passed (λ (line : OnLine). length line.answers) rest.items c.loop-line.answers _ (none-left rest.items rest.len rest.ok.0 c.in-None.ensures.steps.0) c.loop-line.invariant.1
