use Rattle.std.proofs.Common.{◌≡◌, ◌++◌, [], drop}
use Rattle.std.specs.Prelude.{filter}
use denote.Text.{Utf8}
use denote.Shadow.{shadow}
use Rattle.hem_object.specs.Guard.{has}
use Rattle.hem_abstract.specs.Abstract.{all_statuses}
use Rattle.hem_report.specs.Texts.{status_text}
use Rattle.hem_report.proofs.JoinedTexts.{joined_after}
use Rattle.hem_report.proofs.abstracts.write_status_set.Given as goal

-- the text so far and the statuses that are left make the whole text
abbrev pub invariant-loop-number : goal.invariant-loop-number
invariant-loop-number l = record { comma : shadow (Utf8 l.comma); whole : l.output ++ joined_after (status_text l.p) l.comma (filter (has l.set) (drop l.number all_statuses)) ≡ l.fn.output ++ joined_after (status_text l.p) [] (filter (has l.set) all_statuses) }
