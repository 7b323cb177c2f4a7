use Rattle.std.proofs.Common.{◌≡◌, take}
use Rattle.hem_abstract.proofs.fields.copied.Given as goal

-- the fields so far
abbrev pub invariant-loop-status : goal.invariant-loop-status
invariant-loop-status l = l.copy.items ≡ take l.status-index l.fields
