use Rattle.std.proofs.Common.{ap, ◌∙◌, ◌++◌, length, map}
use Rattle.std.specs.List.{flat_map}
use Rattle.hem_tree.specs.Tree.{below}
use Rattle.hem_translate.specs.Places.{queue_of}
use Rattle.hem_translate.specs.ByObject.{object_queues}
use Rattle.hem_translate.proofs.Laid.{queues_laid}
use Rattle.hem_translate.proofs.layout.queues.Goals as goal

pub returns : goal.returns
returns c =
    let tree = c.args.tree.now in
    c.in_ok-push_all_queues.ensures
    ∙ ap (λ queues. map queue_of queues ++ flat_map (object_queues tree) (below (length tree))) c.new-queues.ensures
    ∙ queues_laid tree
