use Rattle.std.proofs.Common.{◌≡◌, ◌++◌, drop}
use Rattle.hem_report.specs.StateText.{messages_text}
use Rattle.hem_report.proofs.lists.write_messages.Given as goal

-- the text so far and the messages that are left make the whole text
abbrev pub invariant-loop-message : goal.invariant-loop-message
invariant-loop-message l = l.output ++ messages_text l.p (drop l.message-index l.messages) ≡ l.fn.output ++ messages_text l.p l.messages
