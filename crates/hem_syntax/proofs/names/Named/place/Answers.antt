use Rattle.std.proofs.Common.{sym, subst, true≢false}
use Rattle.hem_syntax.specs.Names.{AreNamed}
use Rattle.hem_syntax.proofs.Tables.{nowhere_among, turned_among}
use Rattle.hem_syntax.proofs.names.Named.place.Goals as goal

pub returns-in-Some : goal.returns-in-Some
returns-in-Some g c = rw (sym c.self.view_is, c.get_index_of.ensures.index, sym c.in-Some.ensures.bytes) (turned_among c.self.inside.entries.entries c.in-Some.name)

pub returns-in-None : goal.returns-in-None
returns-in-None g c = nowhere_among c.args.self.now c.args.text.now (subst AreNamed c.self.view_is c.self.invariant) (λ name. true≢false (sym (c.in-None.ensures.named.1 name)))
