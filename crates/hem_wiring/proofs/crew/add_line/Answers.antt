use Rattle.std.proofs.lemmas.Result.{on_ok_weaker}
use Rattle.hem_wiring.proofs.Crews.{longer_crew, crew_takes}
use Rattle.hem_wiring.proofs.crew.add_line.Goals as goal

pub add_to_all-requires-clause-takes : goal.add_to_all-requires-clause-takes
add_to_all-requires-clause-takes g c κs within =
    λ o w own here there. crew_takes c.args.p.now c.args.tree.now c.args.work.now c.args.line.0 c.args.work.now.self_count c.args.slots c.in_ok-row.row c.args.crew.now c.requires.few c.requires.crew c.in_ok-row.ensures o w own here there

pub returns : goal.returns
returns g c =
    on_ok_weaker c.add_to_all.result
    (λ added. longer_crew c.args.p.now c.args.tree.now c.args.work.now c.args.line.0 c.args.work.now.self_count c.args.slots c.in_ok-row.row c.args.crew.now c.add_to_all.new.crew (λ k l o line fresh. c.turns_lengthen_parts.ensures.begins c.args.p.now c.args.tree.now k l o line fresh) c.requires.crew c.in_ok-row.ensures added)
    c.add_to_all.ensures
