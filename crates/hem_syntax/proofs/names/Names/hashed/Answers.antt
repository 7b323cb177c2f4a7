use Rattle.std.proofs.Common.{sym, subst, true≢false}
use Rattle.hem_syntax.specs.Names.{AreNames}
use Rattle.hem_syntax.proofs.Tables.{nowhere_in}
use Rattle.hem_syntax.proofs.names.Names.hashed.Goals as goal

pub returns-in-None : goal.returns-in-None
returns-in-None c = nowhere_in c.args.self.now c.args.text.now (subst AreNames c.self.view_is c.self.invariant) (λ name. true≢false (sym (c.in-None.ensures.named.1 name)))
