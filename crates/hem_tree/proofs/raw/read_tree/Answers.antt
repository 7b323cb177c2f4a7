use Rattle.hem_tree.proofs.TreesOfTokens.{reads_tree}
use Rattle.hem_tree.proofs.raw.read_tree.Goals as goal

pub invariant_of-result : goal.invariant_of-result
invariant_of-result c =
    (reads_tree c.args.cursor.now.tokens c.read_part.new.cursor.tokens c.nothing-begin.result c.in-Ok.draft c.start.result.now c.nothing-begin.ensures c.start.ensures c.in-Ok.ensures.ok).tree

pub returns-in-Ok-clause-ok : goal.returns-in-Ok-clause-ok
returns-in-Ok-clause-ok c =
    reads_tree c.args.cursor.now.tokens c.read_part.new.cursor.tokens c.nothing-begin.result c.in-Ok.draft c.start.result.now c.nothing-begin.ensures c.start.ensures c.in-Ok.ensures.ok
