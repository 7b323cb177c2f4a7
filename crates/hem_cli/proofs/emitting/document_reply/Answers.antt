use Rattle.std.proofs.Common.{sym, ap, subst, string_bytes}
use Rattle.std.specs.Prelude.{Ok, IfOk}
use Rattle.hem_cli.specs.Emitting.{IsEmitReply}
use Rattle.hem_cli.proofs.ModuleReplies.{emit_accepted, emit_refused}
use Rattle.hem_cli.proofs.emitting.document_reply.Goals as goal

pub returns-in-Ok : goal.returns-in-Ok
returns-in-Ok c =
    subst (λ r. IfOk r (λ x. IsEmitReply c.args.document x.status (string_bytes x.text))) (sym c.letting_go.ensures)
    (emit_accepted c.args.document c.in-Ok.accepted c.emitted_on-reply.result c.in-Ok.ensures.accepted (c.in-Ok.ensures.exact.0 (ap Ok c.in-Ok.ensures.accepted)) c.emitted_on-reply.ensures)

pub returns : goal.returns
returns c =
    subst (λ r. IfOk r (λ x. IsEmitReply c.args.document x.status (string_bytes x.text))) (sym c.letting_go-in-Err.ensures)
    (emit_refused c.args.document c.in-Err.refusal c.refused-reply.result c.in-Err.ensures.refused c.refused-reply.ensures.status c.refused-reply.ensures.text)
