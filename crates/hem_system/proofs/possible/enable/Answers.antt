use Rattle.std.proofs.Common.{sym, ◌∙◌, ap, Some, ◌≡◌}
use Rattle.std.specs.Prelude.{slice_get, is_some}
use Rattle.std.proofs.lemmas.Option.{slice_get-get_or}
use Rattle.hem_system.proofs.Effects.{not_needed, not_enabled, enabled-is}
use Rattle.hem_system.proofs.possible.enable.Goals as goal

pub returns-then-not-needs_hold-clause-some : goal.returns-then-not-needs_hold-clause-some
returns-then-not-needs_hold-clause-some c =
    let cells = c.args.cells.now in
    let o = c.args.firing.object.0 in
    let cell = c.in_ok-cell.cell.now in
    let x = c.in_ok-kind.field-0 in
    let it = c.in_ok-cell.ensures.lookup in
    let at : slice_get cells o ≡ Some cell = slice_get-get_or cells o cell it.3.0 ∙ ap Some (sym it.1) in
    let none = not_needed c.args.p.now c.args.tree.now cells c.args.firing cell x.kind x.rule.now x.me at c.in_ok-kind.ensures.effect (sym c.needs_hold.ensures ∙ c.if-not-needs_hold.true) in
    sym (ap is_some none)

pub returns-in_err-plan-clause-some : goal.returns-in_err-plan-clause-some
returns-in_err-plan-clause-some c =
    let cells = c.args.cells.now in
    let o = c.args.firing.object.0 in
    let cell = c.in_ok-cell.cell.now in
    let x = c.in_ok-kind.field-0 in
    let it = c.in_ok-cell.ensures.lookup in
    let at : slice_get cells o ≡ Some cell = slice_get-get_or cells o cell it.3.0 ∙ ap Some (sym it.1) in
    let none = not_enabled c.args.p.now c.args.tree.now cells c.args.firing cell x.kind x.rule.now x.me c.heads_taken-took.result at c.in_ok-kind.ensures.effect c.heads_taken-took.ensures c.in_err-plan.ensures in
    ap is_some c.from_residual-in_err-plan.ensures ∙ sym (ap is_some none)

pub returns-clause-some : goal.returns-clause-some
returns-clause-some c =
    let cells = c.args.cells.now in
    let o = c.args.firing.object.0 in
    let cell = c.in_ok-cell.cell.now in
    let x = c.in_ok-kind.field-0 in
    let it = c.in_ok-cell.ensures.lookup in
    let at : slice_get cells o ≡ Some cell = slice_get-get_or cells o cell it.3.0 ∙ ap Some (sym it.1) in
    let made = enabled-is c.args.p.now c.args.tree.now cells c.args.firing cell x.kind x.rule.now x.me c.heads_taken-took.result c.in_ok-plan.plan at c.in_ok-kind.ensures.effect c.heads_taken-took.ensures c.in_ok-plan.ensures in
    sym (ap is_some made.effect)

pub returns-clause-enabled : goal.returns-clause-enabled
returns-clause-enabled c =
    let cells = c.args.cells.now in
    let o = c.args.firing.object.0 in
    let cell = c.in_ok-cell.cell.now in
    let x = c.in_ok-kind.field-0 in
    let it = c.in_ok-cell.ensures.lookup in
    let at : slice_get cells o ≡ Some cell = slice_get-get_or cells o cell it.3.0 ∙ ap Some (sym it.1) in
    enabled-is c.args.p.now c.args.tree.now cells c.args.firing cell x.kind x.rule.now x.me c.heads_taken-took.result c.in_ok-plan.plan at c.in_ok-kind.ensures.effect c.heads_taken-took.ensures c.in_ok-plan.ensures
