use Rattle.std.proofs.Common.{sym, subst, string_bytes}
use Rattle.hem_cli.specs.Running.{IsSummed}
use Rattle.hem_cli.proofs.Replies.{generated_done}
use Rattle.hem_cli.proofs.running.counted.Goals as goal

pub returns-in_ok-text-in-Ok : goal.returns-in_ok-text-in-Ok
returns-in_ok-text-in-Ok g c =
    generated_done c.args.ready.now.accepted c.protocol-p.result.now c.args.ready.now.tree c.args.ready.now.work c.in-Ok.work c.args.count c.args.seed
    (λ with_more text. IsSummed c.args.maker c.args.ready.now.accepted c.args.ready.now.tree with_more text)
    c.reply_with.result.status (string_bytes c.reply_with.result.text) c.protocol-p.ensures.same c.in-Ok.ensures.data c.in-Ok.ensures.faultless c.reply_with.ensures.status
    (subst (IsSummed c.args.maker c.args.ready.now.accepted c.args.ready.now.tree c.in-Ok.work) (sym c.reply_with.ensures.text) c.in_ok-text-in-Ok.ensures)
