use Rattle.std.proofs.Common.{◌≡◌, ◌++◌, map, drop}
use Rattle.hem_print.specs.Canonical.{named, words_text}
use Rattle.hem_print.proofs.protocol.write_statuses.Given as goal

-- the text so far and the names that are left make the whole text
abbrev pub invariant-loop-name : goal.invariant-loop-name
invariant-loop-name l = l.output ++ words_text (map (λ s. named s) (drop l.name-index l.statuses)) ≡ l.fn.output ++ words_text (map (λ s. named s) l.statuses)
