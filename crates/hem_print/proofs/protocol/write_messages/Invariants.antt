use Rattle.std.proofs.Common.{◌≡◌, ◌++◌, map, drop}
use Rattle.hem_print.specs.Canonical.{lines_text, message_line}
use Rattle.hem_print.proofs.protocol.write_messages.Given as goal

-- the text so far and the messages that are left make the whole text
abbrev pub invariant-loop-place : goal.invariant-loop-place
invariant-loop-place l = l.output ++ lines_text (map message_line (drop l.place l.messages)) ≡ l.fn.output ++ lines_text (map message_line l.messages)
