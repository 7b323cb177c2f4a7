use Rattle.hem_text.proofs.Cut.{at_end}
use Rattle.hem_text.proofs.cursor.Cursor.is_at_end.Goals as goal

pub returns : goal.returns
returns c = at_end c.args.self.now.tokens c.peek.result c.is_none.result c.peek.ensures c.is_none.ensures
