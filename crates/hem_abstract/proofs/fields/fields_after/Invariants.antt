use Rattle.std.proofs.Common.{◌≡◌, drop}
use Rattle.hem_abstract.specs.Parts.{fields_after}
use Rattle.hem_abstract.proofs.fields.fields_after.Given as goal

-- the sets that are left lead on to what all sets lead to
abbrev pub invariant-loop-set : goal.invariant-loop-set
invariant-loop-set l = fields_after (drop l.set-index l.sets) l.changed.items ≡ fields_after l.sets l.fields
