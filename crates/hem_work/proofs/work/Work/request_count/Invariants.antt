use Rattle.std.proofs.Common.{◌≡◌, take}
use Rattle.std.specs.Prelude.{sum_by}
use Rattle.hem_work.specs.Work.{requests_on}
use Rattle.hem_work.proofs.work.Work.request_count.Given as goal

abbrev pub invariant-loop-row : goal.invariant-loop-row
invariant-loop-row l = l.count ≡ sum_by requests_on (take l.row-index l.self.requests)
