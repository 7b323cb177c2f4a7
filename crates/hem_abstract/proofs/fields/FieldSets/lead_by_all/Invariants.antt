use Rattle.std.proofs.Common.{◌≡◌, drop}
use Rattle.hem_abstract.specs.FieldSets.{led_by_all}
use Rattle.hem_abstract.proofs.fields.FieldSets.lead_by_all.Given as goal

-- those that are among these after the sets from that place on
abbrev pub invariant-loop-place : goal.invariant-loop-place
invariant-loop-place l = l.self ≡ led_by_all (drop l.place l.sets) l.fn.self
