use Rattle.std.proofs.Common.{◌≡◌, ◌≤◌, drop, take}
use Rattle.hem_work.specs.Limits.{most_requests}
use Rattle.hem_work.specs.Building.{request_count, entries_fault}
use Rattle.hem_work.proofs.faults.count_requests.Given as goal

abbrev pub invariant-loop-entry : goal.invariant-loop-entry
invariant-loop-entry l = record {
  counted : l.count ≡ request_count (take l.entry-index l.entries);
  few : l.count ≤ most_requests;
  rest : entries_fault l.p l.tree l.lines l.count (drop l.entry-index l.entries) ≡ entries_fault l.p l.tree l.lines 0 l.entries;
}
