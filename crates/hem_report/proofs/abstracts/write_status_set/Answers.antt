use Rattle.std.proofs.Common.{sym, ◌∙◌}
use Rattle.hem_report.specs.Texts.{status_text}
use Rattle.hem_report.proofs.JoinedTexts.{comma_utf8, joined_more}
use Rattle.hem_report.proofs.StatusSets.{status_in, status_out}
use Rattle.hem_report.proofs.abstracts.write_status_set.Goals as goal
use Rattle.hem_report.proofs.abstracts.write_status_set.Goals.{then-has+in_ok-text+in_ok-write_status, else-has}

pub loop-number-preserved : goal.loop-number-preserved
loop-number-preserved c =
    elim c.if-has.branch [
      | then-has+in_ok-text+in_ok-write_status w ↦
          let here = status_in c.args.set c.loop-number.number c.loop-number-test.true (sym c.has.ensures ∙ w.if-has.true) in
          rw (w.output-is, w.comma-is) (record { comma = comma_utf8; whole = rw (w.in_ok-write_status.ensures, w.in_ok-text.ensures.ok, joined_more (status_text c.args.p.now)) (rw here at c.loop-number.invariant.whole) })
      | else-has w ↦
          let here = status_out c.args.set c.loop-number.number c.loop-number-test.true (sym c.has.ensures ∙ w.if-has.false) in
          rw (w.output-is, w.comma-is) (record { comma = c.loop-number.invariant.comma; whole = rw here at c.loop-number.invariant.whole })
    ]
