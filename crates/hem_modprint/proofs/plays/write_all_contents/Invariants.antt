use Rattle.std.proofs.Common.{◌≡◌, ◌++◌, drop}
use Rattle.std.specs.Prelude.{flat_map}
use Rattle.std.specs.List.{enumerate_from}
use Rattle.hem_modprint.specs.PlayText.{queue_part}
use Rattle.hem_modprint.proofs.plays.write_all_contents.Given as goal

-- the text so far and what is left make the whole text
abbrev pub invariant-loop-place : goal.invariant-loop-place
invariant-loop-place l = l.output ++ flat_map (queue_part l.s) (enumerate_from l.place (drop l.place l.m.queues)) ≡ l.fn.output ++ flat_map (queue_part l.s) (enumerate_from 0 l.m.queues)
