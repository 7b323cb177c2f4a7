use Rattle.std.proofs.Common.{◌≡◌, drop}
use Rattle.hem_fire.proofs.FirstHead.{first_from}
use Rattle.hem_fire.proofs.heads.Heads.first_response.Given as goal

-- the first awaited child is among those that are left
abbrev pub invariant-loop-place : goal.invariant-loop-place
invariant-loop-place l = first_from l.awaited l.place (drop l.place l.self.kids) ≡ first_from l.awaited 0 l.self.kids
