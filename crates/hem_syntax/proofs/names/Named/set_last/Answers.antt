use Rattle.std.proofs.Common.{◌∙◌, ◌-◌, ap}
use Rattle.hem_syntax.specs.Names.{with_last}
use Rattle.hem_syntax.proofs.Tables.{set_at_last, still_named}
use Rattle.hem_syntax.proofs.names.Named.set_last.Goals as goal

pub invariant_of-self : goal.invariant_of-self
invariant_of-self g c = still_named c.self.inside.entries.entries (c.len-len.result - 1) c.args.value c.self.invariant

pub returns-then-len-gt0 : goal.returns-then-len-gt0
returns-then-len-gt0 g c = rw c.len-len.ensures.len (set_at_last c.self.inside.entries.entries c.args.value) ∙ ap (λ l. with_last l c.args.value) c.self.view_is
