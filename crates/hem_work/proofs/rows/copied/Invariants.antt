use Rattle.std.proofs.Common.{◌≡◌, take}
use Rattle.hem_work.proofs.rows.copied.Given as goal

abbrev pub invariant-loop-message : goal.invariant-loop-message
invariant-loop-message l = l.list ≡ take l.message-index l.messages
