use Rattle.std.proofs.Common.{◌≡◌, replicate, None}
use Rattle.hem_abstract.proofs.fields.FieldSets.any.Given as goal

-- no field so far has a set
abbrev pub invariant-loop-field : goal.invariant-loop-field
invariant-loop-field l = l.sets.items ≡ replicate l._field None
