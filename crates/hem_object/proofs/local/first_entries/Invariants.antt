use Rattle.std.proofs.Common.{◌≡◌}
use Rattle.std.specs.Prelude.{replicate}
use Rattle.hem_object.proofs.local.first_entries.Given as goal

-- the entries so far are the first status
abbrev pub invariant-loop-child : goal.invariant-loop-child
invariant-loop-child l = l.first.items ≡ replicate l._child l.status
