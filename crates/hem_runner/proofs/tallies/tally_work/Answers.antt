use Rattle.std.proofs.Common.{sym, subst}
use Rattle.std.specs.Prelude.{IfOk}
use Rattle.hem_runner.specs.Tally.{IsTally}
use Rattle.hem_runner.proofs.Tallied.{tallied, tally-told}
use Rattle.hem_runner.proofs.tallies.tally_work.Goals as goal

pub returns : goal.returns
returns g c =
    let crew = c.in_ok-crew.crew.items in
    subst (λ r. IfOk r (λ t. IsTally c.args.p.now c.args.tree.now c.args.work.now t.quiet t.answers)) (sym c.ok_or.ensures.value)
    (tally-told c.args.p.now c.args.tree.now c.args.work.now crew c.tally_of.result _
    (tallied c.args.p.now c.args.tree.now c.args.work.now c.part-part.ensures.lawful c.requires.disciplined c.objects-objects.ensures.lawful c.requires.lawful crew c.in_ok-crew.ensures)
    c.tally_of.ensures.quiet c.tally_of.ensures.answers)
