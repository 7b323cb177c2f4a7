use Rattle.std.proofs.Common.{string_bytes}
use Rattle.hem_cli.proofs.Replies.{end_told}
use Rattle.hem_cli.proofs.running.told.Goals as goal

pub returns-in-Ok : goal.returns-in-Ok
returns-in-Ok g c =
    end_told (λ s. string_bytes s) c.args.maker c.args.ready.now.accepted c.protocol-p.result.now c.args.ready.now.tree c.args.ready.now.work c.in_ok-journal.field-0.journal _ _ c.in_ok-journal.field-0.end _ _ c.ended_text.result
    c.protocol-p.ensures.same
    c.in_ok-journal.ensures.to_end
    c.in_ok-journal.ensures.made
    c.as_slice.ensures
    c.as_slice-in-Ok.ensures
    c.in-Ok.ensures.printed_order
    c.in-Ok.ensures.serial
    c.in-Ok.ensures.same_firings
    c.deref.ensures.value
    c.ended_text.ensures
