use Rattle.std.proofs.Common.{◌≡◌, take, drop, ◌++◌, length}
use Rattle.hem_object.specs.Guard.{is_requester}
use Rattle.hem_object.specs.Changes.{set_at}
use Rattle.hem_object.proofs.local.Local.set_requester.Given as goal

-- the entries so far, and those that are left as they will be, are what all entries become; nothing else changed
abbrev pub invariant-loop-place : goal.invariant-loop-place
invariant-loop-place l = record {
  goes_on : take l.place l.self.dir ++ set_at l.status (is_requester l.view) l.place (drop l.place l.self.dir) ≡ set_at l.status (is_requester l.view) 0 l.fn.self.dir;
  size : length l.self.dir ≡ l.place-end;
  rest : (record l.self { dir = l.fn.self.dir }) ≡ l.fn.self;
}
