use Rattle.std.proofs.Common.{◌≡◌, ◌++◌, take}
use Rattle.std.specs.Prelude.{map}
use Rattle.hem_work.proofs.rows.append.Given as goal

abbrev pub invariant-loop-request : goal.invariant-loop-request
invariant-loop-request l = l.list ≡ l.initial.list ++ map (λ r. r.0) (take l.request-index l.requests)
