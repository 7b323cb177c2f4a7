use Rattle.std.proofs.lemmas.List.Elements.{All-more}
use Rattle.std.proofs.Common.{◌<◌, ◌^◌}
use Rattle.hem_base.specs.declared.ids.Message.{Message}
use Rattle.hem_worktext.specs.WorkText.{request_text}
use Rattle.hem_worktext.proofs.Steps.{text_more}
use Rattle.hem_worktext.proofs.work.write_requests.Goals as goal

pub loop-request-preserved : goal.loop-request-preserved
loop-request-preserved c = record {
  text = text_more (request_text c.args.p.now) c.args.requests.now c.loop-request.request-index _ c.args.output.now c.loop-request.output c.write_request.new.output c.loop-request-test.true c.loop-request.invariant.text c.in_ok-write_request.ensures.text;
  numbers = All-more (λ (m : Message). m.value < 2 ^ 64) c.args.requests.now c.loop-request.request-index _ c.loop-request-test.true c.loop-request.invariant.numbers c.write_request.ensures.number;
}
