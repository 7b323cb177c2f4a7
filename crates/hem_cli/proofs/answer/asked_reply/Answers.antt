use Rattle.hem_cli.proofs.Replies.{reply_after, formed}
use Rattle.hem_cli.proofs.answer.asked_reply.Goals as goal

pub returns : goal.returns
returns g c =
    let told = formed c.args.asked c.args.bytes.now c.in_ok-reply.reply c.in_form.result c.in_ok-reply.ensures c.in_form.ensures.status c.in_form.ensures.text in
    record { answers = told; after = reply_after c.args.asked c.args.bytes.now c.in_form.result told }
