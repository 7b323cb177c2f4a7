use Rattle.std.proofs.Common.{◌≡◌, ◌++◌, drop}
use Rattle.hem_print.specs.Canonical.{words_text, names_in}
use Rattle.hem_print.proofs.names.write_set.Given as goal

-- the text so far and the statuses that are left make the whole text
abbrev pub invariant-loop-place : goal.invariant-loop-place
invariant-loop-place l = l.output ++ words_text (names_in l.set l.place (drop l.place l.p.statuses)) ≡ l.fn.output ++ words_text (names_in l.set 0 l.p.statuses)
