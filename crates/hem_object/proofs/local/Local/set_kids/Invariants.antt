use Rattle.std.proofs.Common.{◌≡◌, take, drop, ◌++◌, length}
use Rattle.hem_base.specs.Sets.{has_bit}
use Rattle.hem_object.specs.Changes.{set_at}
use Rattle.hem_object.proofs.local.Local.set_kids.Given as goal

-- the entries so far, and those that are left as they will be, are what all entries become; nothing else changed
abbrev pub invariant-loop-place : goal.invariant-loop-place
invariant-loop-place l = record {
  goes_on : take l.place l.self.dir ++ set_at l.status (has_bit l.kids.0) l.place (drop l.place l.self.dir) ≡ set_at l.status (has_bit l.kids.0) 0 l.fn.self.dir;
  size : length l.self.dir ≡ l.place-end;
  rest : (record l.self { dir = l.fn.self.dir }) ≡ l.fn.self;
}
