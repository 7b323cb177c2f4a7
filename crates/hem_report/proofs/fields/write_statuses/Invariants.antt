use Rattle.std.proofs.Common.{◌≡◌, ◌++◌, [], drop}
use denote.Text.{Utf8}
use denote.Shadow.{shadow}
use Rattle.hem_report.specs.Texts.{status_text}
use Rattle.hem_report.proofs.JoinedTexts.{joined_after}
use Rattle.hem_report.proofs.fields.write_statuses.Given as goal

-- the text so far and the statuses that are left make the whole text
abbrev pub invariant-loop-status : goal.invariant-loop-status
invariant-loop-status l = record { comma : shadow (Utf8 l.comma); whole : l.output ++ joined_after (status_text l.p) l.comma (drop l.status-index l.statuses) ≡ l.fn.output ++ joined_after (status_text l.p) [] l.statuses }
