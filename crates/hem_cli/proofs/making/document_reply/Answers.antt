use Rattle.std.proofs.Common.{◌≡◌, sym, subst, string_bytes}
use Rattle.std.specs.Prelude.{IfOk}
use Rattle.hem_cli.specs.Generating.{IsGenerated}
use Rattle.hem_cli.specs.Making.{made_text}
use Rattle.hem_cli.specs.Answer.{IsMakeReply}
use Rattle.hem_cli.proofs.Replies.{ready_work, ready_replied}
use Rattle.hem_cli.proofs.UsedName.{uses_word}
use Rattle.hem_cli.proofs.making.document_reply.Goals as goal

pub made-reply-requires-clause-word : goal.made-reply-requires-clause-word
made-reply-requires-clause-word c = uses_word c.args.bytes.now c.args.document c.requires.reads

pub made-reply-requires-clause-lawful : goal.made-reply-requires-clause-lawful
made-reply-requires-clause-lawful c = ready_work c.args.document c.in_ok-ready.field-0 c.in-ForJob.ready c.in_ok-ready.ensures c.in-ForJob.is

pub returns-in-ForJob : goal.returns-in-ForJob
returns-in-ForJob c =
    subst (λ r. IfOk r (λ x. IsMakeReply c.args.bytes.now c.args.count c.args.seed c.args.document x.status (string_bytes x.text))) (sym c.letting_go.ensures)
    (ready_replied c.args.document c.in_ok-ready.field-0 c.in-ForJob.ready (λ p tree work. IsGenerated p tree work c.args.count c.args.seed (λ with_more text. text ≡ made_text c.args.bytes.now p tree with_more))
    c.made-reply.result c.in_ok-ready.ensures c.in-ForJob.is c.made-reply.ensures)
