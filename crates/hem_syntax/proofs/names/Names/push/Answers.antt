use Rattle.std.proofs.Common.{◌≡◌, ◌∙◌, refl}
use Rattle.hem_syntax.proofs.Tables.{turned_any}
use Rattle.hem_syntax.proofs.names.Names.push.Goals as goal

pub returns-clause-ok : goal.returns-clause-ok
returns-clause-ok c =
    let keys = c.self.inside.names.keys in
    let same : keys ≡ c.args.self.now = c.self.view_is in
    let new = turned_any c.args.self.now c.args.name ∙ c.requires in
    c.in_ok-insert.ensures.keys ∙ rw (same, new) refl
