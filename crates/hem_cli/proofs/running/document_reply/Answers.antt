use Rattle.std.proofs.Common.{sym, subst, string_bytes}
use Rattle.std.specs.Prelude.{IfOk}
use Rattle.hem_cli.specs.Running.{IsEndOf}
use Rattle.hem_cli.specs.Answer.{IsEndReply}
use Rattle.hem_cli.proofs.Replies.{ready_work, ready_replied}
use Rattle.hem_cli.proofs.running.document_reply.Goals as goal

pub end_of-reply-requires-after_bounds : goal.end_of-reply-requires-after_bounds
end_of-reply-requires-after_bounds g c κs within = ready_work c.args.document c.in_ok-ready.field-0 c.in-ForJob.ready c.in_ok-ready.ensures c.in-ForJob.is

pub returns-in-ForJob : goal.returns-in-ForJob
returns-in-ForJob g c =
    subst (λ r. IfOk r (λ x. IsEndReply c.args.maker c.args.count c.args.seed c.args.document x.status (string_bytes x.text))) (sym c.letting_go.ensures)
    (ready_replied c.args.document c.in_ok-ready.field-0 c.in-ForJob.ready (IsEndOf c.args.maker c.args.count c.args.seed) c.end_of-reply.result c.in_ok-ready.ensures c.in-ForJob.is c.end_of-reply.ensures)
