use Rattle.std.proofs.Common.{◌≡◌, ◌++◌, [], drop, decimal}
use denote.Text.{Utf8}
use denote.Shadow.{shadow}
use Rattle.hem_report.proofs.JoinedTexts.{joined_after, awaited_from}
use Rattle.hem_report.proofs.locks.write_awaited.Given as goal

-- the text so far and the children that are left make the whole text
abbrev pub invariant-loop-place : goal.invariant-loop-place
invariant-loop-place l = record { comma : shadow (Utf8 l.comma); whole : l.output ++ joined_after decimal l.comma (awaited_from l.set l.place (drop l.place l.children)) ≡ l.fn.output ++ joined_after decimal [] (awaited_from l.set 0 l.children) }
