-- The number of the last member at an object, as a table by line and object keeps it.
use Rattle.std.specs.Prelude.{ℕ, [], Option, None, slice_index_or}
use Rattle.hem_regroup.specs.declared.member.Member.{Member}
use Rattle.hem_regroup.specs.declared.last.LastNumbers.{LastNumbers}

-- the number that stands at a member's place
abbrev pub number_at : LastNumbers → Member → Option ℕ
number_at last member = slice_index_or (slice_index_or last.lines member.firing.line.0 []) member.firing.object.0 None
