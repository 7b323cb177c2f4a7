use Rattle.std.proofs.Common.{◌≡◌, ◌++◌, take}
use Rattle.std.specs.Prelude.{flat_map}
use Rattle.hem_worktext.specs.ReadsBack.{AreNumbers}
use Rattle.hem_worktext.specs.WorkText.{request_text}
use Rattle.hem_worktext.proofs.work.write_requests.Given as goal

abbrev pub invariant-loop-request : goal.invariant-loop-request
invariant-loop-request l = record {
  text : l.output ≡ l.initial.output ++ flat_map (request_text l.p) (take l.request-index l.requests);
  numbers : AreNumbers (take l.request-index l.requests);
}
