use Rattle.std.proofs.Common.{◌≡◌, ◌++◌, drop}
use Rattle.std.specs.Prelude.{flat_map}
use Rattle.hem_modprint.specs.ModulesText.{queue_text}
use Rattle.hem_modprint.proofs.modules.write_queues.Given as goal

-- the text so far and what is left make the whole text
abbrev pub invariant-loop-name : goal.invariant-loop-name
invariant-loop-name l = l.output ++ flat_map (queue_text) (drop l.name-index l.queues) ≡ l.fn.output ++ flat_map (queue_text) l.queues
