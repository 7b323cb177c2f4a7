use Rattle.hem_system.proofs.Effects.{kid_heads, heads-are}
use Rattle.hem_system.specs.Cells.{line_of}
use Rattle.hem_system.proofs.possible.heads_taken.Goals as goal

pub returns : goal.returns
returns c =
    heads-are c.args.tree.now (line_of c.args.cells.now) c.args.firing.object.0 c.args.firing.me c.args.take c.args.local.now _ _ _ _ _
    c.request_taken.ensures c.parent_taken.ensures c.kids_taken.ensures c.response_heads-kids.ensures (kid_heads (line_of c.args.cells.now) _ _ c.children_of.ensures.children)
