use Rattle.hem_print.specs.Canonical.{message_line}
use Rattle.hem_print.proofs.Led.{line_at}
use Rattle.hem_print.proofs.protocol.write_messages.Goals as goal

pub loop-place-preserved : goal.loop-place-preserved
loop-place-preserved c = line_at message_line _ c.loop-place.output c.write_message_at.new.output c.args.messages.now c.loop-place.place c.in_ok-write_message_at.ensures c.loop-place.invariant
