use Rattle.std.proofs.lemmas.List.{drop_more}
use Rattle.hem_report.proofs.JoinedTexts.{comma_utf8, joined_more}
use Rattle.hem_report.specs.Texts.{status_text}
use Rattle.hem_report.proofs.fields.write_statuses.Goals as goal

pub loop-status-preserved : goal.loop-status-preserved
loop-status-preserved c =
    record {
      comma = comma_utf8;
      whole = rw (c.in_ok-write_status.ensures, c.in_ok-text.ensures.ok, joined_more (status_text c.args.p.now)) (rw (drop_more c.args.statuses.now c.loop-status.status-index (record { 0 = 0 }) c.loop-status-test.true) at c.loop-status.invariant.whole);
    }
