use Rattle.std.proofs.Common.{◌≡◌, drop}
use Rattle.hem_abstract.specs.FieldSets.{kept_by_all}
use Rattle.hem_abstract.proofs.fields.FieldSets.keep_by_all.Given as goal

-- the conditions that are left lead on to what all conditions keep
abbrev pub invariant-loop-atom : goal.invariant-loop-atom
invariant-loop-atom l = kept_by_all l.asked (drop l.atom-index l.guard) l.self ≡ kept_by_all l.asked l.guard l.fn.self
