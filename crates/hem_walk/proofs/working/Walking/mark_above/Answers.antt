use Rattle.std.proofs.Common.{sym, ap, ◌∙◌}
use Rattle.hem_tree.specs.Objects.{number_of}
use Rattle.hem_walk.proofs.Marked.{parent_there}
use Rattle.hem_walk.proofs.working.Walking.mark_above.Goals as goal

pub mark-requires-clause-there : goal.mark-requires-clause-there
mark-requires-clause-there c =
    parent_there c.args.tree.now c.args.self.now.system c.args.firing.line.0 c.args.firing.object.0 c.in-Some.parent.0 c.objects-objects.ensures.lawful c.requires.there (sym c.parent.ensures ∙ ap number_of c.in-Some.is)
