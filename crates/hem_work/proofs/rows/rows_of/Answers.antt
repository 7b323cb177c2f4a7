use Rattle.std.proofs.Common.{length, get_or, [], subst, sym, ap, arith, take}
use Rattle.hem_work.specs.Entries.{IsPlaced}
use Rattle.hem_work.proofs.Tables.{table_length, row_length, rows_more}
use Rattle.hem_work.proofs.rows.rows_of.Goals as goal

pub add_entry-requires-clause-line : goal.add_entry-requires-clause-line
add_entry-requires-clause-line c =
    let here : IsPlaced c.args.lines c.args.objects c.entry-item.result = subst (IsPlaced c.args.lines c.args.objects) (sym c.entry-item.is) (c.requires c.loop-entry.entry-index c.entry-item.result c.loop-entry-test.true) in
    let long = ap length c.loop-entry.invariant in
    omega (arith, here.line, table_length (take c.loop-entry.entry-index c.args.entries.now) c.args.lines c.args.objects)

pub add_entry-requires-clause-object : goal.add_entry-requires-clause-object
add_entry-requires-clause-object c =
    let here : IsPlaced c.args.lines c.args.objects c.entry-item.result = subst (IsPlaced c.args.lines c.args.objects) (sym c.entry-item.is) (c.requires c.loop-entry.entry-index c.entry-item.result c.loop-entry-test.true) in
    let long = ap (λ rows. length (get_or rows c.entry-item.result.line.0 [])) c.loop-entry.invariant in
    omega (arith, here.object, row_length (take c.loop-entry.entry-index c.args.entries.now) c.entry-item.result c.args.lines c.args.objects here)

pub loop-entry-preserved : goal.loop-entry-preserved
loop-entry-preserved c =
    let here : IsPlaced c.args.lines c.args.objects c.entry-item.result = subst (IsPlaced c.args.lines c.args.objects) (sym c.entry-item.is) (c.requires c.loop-entry.entry-index c.entry-item.result c.loop-entry-test.true) in
    rows_more c.args.entries.now c.loop-entry.entry-index c.entry-item.result c.loop-entry.rows c.add_entry.new.rows c.args.lines c.args.objects c.loop-entry-test.true c.entry-item.is here c.loop-entry.invariant c.in_ok-add_entry.ensures
