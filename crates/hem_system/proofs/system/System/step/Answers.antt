use Rattle.std.proofs.Common.{◌≡◌, ◌≤◌, arith, length, subst, refl, OnOk, OnErr, IfOk, Err, Some, None}
use Rattle.std.specs.Prelude.{◌↔◌}
use Rattle.hem_system.specs.declared.fault.StepFault.TheVariants.{NotEnabled}
use Rattle.hem_system.specs.State.{State, Fires, fire}
use Rattle.hem_system.specs.Events.{event_in}
use Rattle.hem_system.specs.Cells.{state_of}
use Rattle.hem_system.proofs.Stepped.{stepped-ok, stepped-event, stepped-refused, stepped-err, no_line}
use Rattle.hem_system.proofs.system.System.step.Goals as goal

pub returns-then-line-len-clause-ok : goal.returns-then-line-len-clause-ok
returns-then-line-len-clause-ok c =
    subst (λ (s : State). OnOk c.step_line.result (Fires c.args.p.now c.args.tree.now s c.args.firing (state_of c.step_line.new.lines))) c.self.view_is (stepped-ok c.step_line.ensures)

pub returns-then-line-len-clause-event : goal.returns-then-line-len-clause-event
returns-then-line-len-clause-event c =
    subst (λ (s : State). IfOk c.step_line.result (λ event. event_in c.args.p.now c.args.tree.now s c.args.firing ≡ Some event)) c.self.view_is (stepped-event c.step_line.ensures)

pub returns-then-line-len-clause-refused : goal.returns-then-line-len-clause-refused
returns-then-line-len-clause-refused c =
    subst (λ (s : State). (c.step_line.result ≡ Err NotEnabled) ↔ (fire c.args.p.now c.args.tree.now s c.args.firing ≡ None)) c.self.view_is (stepped-refused c.step_line.ensures)

pub returns-then-line-len-clause-err : goal.returns-then-line-len-clause-err
returns-then-line-len-clause-err c =
    subst (λ (s : State). OnErr c.step_line.result (state_of c.step_line.new.lines ≡ s)) c.self.view_is (stepped-err c.step_line.ensures)

pub returns-else-line-len-clause-refused : goal.returns-else-line-len-clause-refused
returns-else-line-len-clause-refused c =
    let len = c.len.ensures in
    let test = c.if-line-len.false in
    let past : length c.self.inside.lines ≤ c.args.firing.line.0 = omega arith in
    let none = subst (λ (s : State). fire c.args.p.now c.args.tree.now s c.args.firing ≡ None) c.self.view_is (no_line c.args.p.now c.args.tree.now c.self.inside.lines c.args.firing past) in
    (λ refused. none, λ is. refl)
