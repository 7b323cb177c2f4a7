use Rattle.std.proofs.Common.{sym, ◌∙◌, decimal}
use Rattle.hem_report.proofs.JoinedTexts.{comma_utf8, joined_more, awaited_in, awaited_out}
use Rattle.hem_report.proofs.locks.write_awaited.Goals as goal
use Rattle.hem_report.proofs.locks.write_awaited.Goals.{then-has+in_ok-text+in_ok-number, else-has}

pub loop-place-preserved : goal.loop-place-preserved
loop-place-preserved c =
    elim c.if-has.branch [
      | then-has+in_ok-text+in_ok-number w ↦
          let here = awaited_in c.args.set c.loop-place.place c.args.children.now (record { 0 = 0 }) c.loop-place-test.true (sym c.has.ensures ∙ w.if-has.true) in
          rw (w.output-is, w.comma-is) (record { comma = comma_utf8; whole = rw (w.in_ok-number.ensures.ok, w.in_ok-text.ensures.ok, joined_more decimal, w.from.ensures) (rw here at c.loop-place.invariant.whole) })
      | else-has w ↦
          let here = awaited_out c.args.set c.loop-place.place c.args.children.now (record { 0 = 0 }) c.loop-place-test.true (sym c.has.ensures ∙ w.if-has.false) in
          rw (w.output-is, w.comma-is) (record { comma = c.loop-place.invariant.comma; whole = rw here at c.loop-place.invariant.whole })
    ]
