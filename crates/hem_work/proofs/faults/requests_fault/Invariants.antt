use Rattle.std.proofs.Common.{◌≡◌, ◌+◌, ◌≤◌, drop}
use Rattle.hem_work.specs.Limits.{most_requests}
use Rattle.hem_work.specs.Building.{requests_fault}
use Rattle.hem_work.proofs.faults.requests_fault.Given as goal

abbrev pub invariant-loop-k : goal.invariant-loop-k
invariant-loop-k l = record {
  few : l.before + l.k ≤ most_requests;
  rest : requests_fault l.p (l.before + l.k) (drop l.k l.requests) ≡ requests_fault l.p l.before l.requests;
}
