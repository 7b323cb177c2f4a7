use Rattle.std.proofs.Common.{arith, ◌<◌, length}
use Rattle.hem_work.specs.Work.{requests_of}
use Rattle.hem_system.proofs.Starts.{first_line-more}
use Rattle.hem_system.proofs.starting.first_line.Goals as goal

pub loop-object-preserved : goal.loop-object-preserved
loop-object-preserved c =
    let count = c.objects-object-end.ensures.count in
    let test = c.loop-object-test.true in
    let within : c.loop-object.object < length c.args.tree.now = omega arith in
    first_line-more c.args.p.now c.args.tree.now (requests_of c.args.work.now c.args.line.0) c.loop-object.object c.loop-object.cells c.push.new.self c.in_ok-cell.cell within c.loop-object.invariant c.in_ok-cell.ensures c.in_ok-push.ensures.ok
