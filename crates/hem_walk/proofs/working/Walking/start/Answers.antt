use Rattle.std.proofs.Common.{◌<◌, ◌^◌, ◌*◌, ◌∙◌, arith}
use Rattle.std.specs.Prelude.{replicate}
use Rattle.hem_walk.proofs.Table.{so_far_none}
use Rattle.hem_walk.proofs.working.Walking.start.Goals as goal

pub returns : goal.returns
returns c =
    let lines = c.lines.ensures in
    let objects = c.objects.ensures.count in
    let few : c.args.work.now.lines < 2 ^ 32 = omega arith in
    let zeros = c.in_ok-vec.ensures.items_if_clones_equal (λ y same. same) in
    so_far_none c.args.p.now c.args.tree.now c.args.work.now c.args.seed _ few c.in_ok-system.ensures c.new.ensures
    (zeros ∙ (λ i. replicate (lines i * objects i) 0)) c.new-2.ensures
