use Rattle.std.proofs.Common.{sym, subst, string_bytes}
use Rattle.std.specs.Prelude.{IfOk}
use Rattle.hem_cli.specs.Answer.{IsVerdict}
use Rattle.hem_cli.proofs.Replies.{verdict_refused}
use Rattle.hem_cli.proofs.checking.verdict.Goals as goal

pub returns-in-Err : goal.returns-in-Err
returns-in-Err c =
    subst (λ r. IfOk r (λ x. IsVerdict c.args.protocol x.status (string_bytes x.text))) (sym c.letting_go-in-Err.ensures)
    (verdict_refused c.args.protocol c.in-Err.refusal c.refused-reply.result c.in-Err.ensures.refused c.refused-reply.ensures.status c.refused-reply.ensures.text)
