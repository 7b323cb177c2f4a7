use Rattle.std.proofs.Common.{◌≡◌, take}
use Rattle.std.specs.Prelude.{map}
use Rattle.hem_object.proofs.local.first_fields.Given as goal

-- the fields so far have their first statuses
abbrev pub invariant-loop-field : goal.invariant-loop-field
invariant-loop-field l = l.first.items ≡ map (λ f. f.1) (take l.field-index l.fields)
