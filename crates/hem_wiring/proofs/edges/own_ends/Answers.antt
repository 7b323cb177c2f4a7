use Rattle.std.proofs.Common.{sym, subst, arith, List, [], ◌∷◌, ◌++◌, None, ◌+◌}
use Rattle.std.proofs.lemmas.Result.{IfOk-weaker}
use Rattle.hem_tree.proofs.Early.{lawful_early}
use Rattle.hem_ends.specs.Ends.{Kid}
use Rattle.hem_wiring.specs.Wiring.{AreEnds}
use Rattle.hem_wiring.proofs.Rows.{root_comes, child_comes}
use Rattle.hem_wiring.proofs.edges.own_ends.Goals as goal

pub join_at-requires-clause-there : goal.join_at-requires-clause-there
join_at-requires-clause-there g c κs within =
    let before = (lawful_early c.args.tree.now c.objects-objects.ensures.lawful.shape).early c.args.object.0 c.in-Some.parent.0 (sym c.in-Some.ensures) in
    omega (arith, before, c.requires.row.count)

pub returns-in-Some : goal.returns-in-Some
returns-in-Some g c =
    IfOk-weaker c.join_at.result _ _
    (λ own joined. child_comes c.args.tree.now c.args.slots c.args.object.0 c.in-Some.parent.0 c.args.row.now c.join_at.new.row own (lawful_early c.args.tree.now c.objects-objects.ensures.lawful.shape) (sym c.in-Some.ensures) c.requires.row joined)
    c.join_at.ensures

pub returns-in-None : goal.returns-in-None
returns-in-None g c =
    subst (λ (kids : List Kid). AreEnds c.args.tree.now c.args.slots (c.args.object.0 + 1) (c.args.row.now ++ record { up_requests = None; up_responses = None; down = None; kids = kids } ∷ [])) (sym c.new.ensures)
    (root_comes c.args.tree.now c.args.slots c.args.object.0 c.args.row.now (lawful_early c.args.tree.now c.objects-objects.ensures.lawful.shape) (sym c.in-None.ensures) c.requires.row)
