use Rattle.std.proofs.Common.{◌≡◌, IsTrue, drop}
use Rattle.std.specs.List.{list_all}
use Rattle.hem_object.specs.Changes.{assign_own, in_turn, assign_names}
use Rattle.hem_object.proofs.local.Local.assign_fields.Given as goal

-- the sets that are left lead on to what all sets lead to, and their names exist
abbrev pub invariant-loop-set : goal.invariant-loop-set
invariant-loop-set l = record {
  goes_on : in_turn (assign_own l.fn.self l.view) (drop l.set-index l.sets) l.self ≡ in_turn (assign_own l.fn.self l.view) l.sets l.fn.self;
  names : IsTrue (list_all (assign_names l.self l.view) (drop l.set-index l.sets));
  same : l.val ≡ l.fn.self.val;
}
