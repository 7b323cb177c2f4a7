use Rattle.std.proofs.Common.{◌<◌, length, [], append_assoc, subst}
use Rattle.std.specs.Prelude.{slice_index_or}
use Rattle.hem_report.specs.StateText.{object_text}
use Rattle.hem_report.proofs.StateTexts.{objects_more}
use Rattle.hem_report.proofs.states.write_objects.Goals as goal

pub loop-object-preserved : goal.loop-object-preserved
loop-object-preserved c =
    let there : c.loop-object.object < length (slice_index_or c.args.s.now c.args.line []) = subst (λ n. c.loop-object.object < n) c.objects-object-end.ensures c.loop-object-test.true in
    let more = objects_more (object_text c.args.p.now c.args.tree.now) c.args.s.now c.args.line c.loop-object.object c.requires there in
    rw (c.in_ok-write_object.ensures, append_assoc, more) c.loop-object.invariant
