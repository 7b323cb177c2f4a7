use Rattle.std.proofs.Common.{sym, subst, string_bytes}
use Rattle.hem_cli.specs.Emitting.{IsEmitted}
use Rattle.hem_cli.proofs.ModuleReplies.{on_tree_told}
use Rattle.hem_cli.proofs.emitting.emitted_on.Goals as goal

pub returns-in_ok-text-in-Ok : goal.returns-in_ok-text-in-Ok
returns-in_ok-text-in-Ok c =
    on_tree_told c.args.accepted.now c.args.raw.now c.in-Ok.tree c.reply_with.result.status (string_bytes c.reply_with.result.text)
    c.in-Ok.ensures.data c.in-Ok.ensures.lawful c.reply_with.ensures.status
    (subst (IsEmitted c.args.accepted.now c.in-Ok.tree) (sym c.reply_with.ensures.text) c.in_ok-text-in-Ok.ensures)
