use Rattle.std.proofs.Common.{◌≡◌, ◌++◌, drop}
use Rattle.hem_report.specs.Texts.{text_of_each}
use Rattle.hem_report.specs.LocalText.{field_text}
use Rattle.hem_report.proofs.fields.write_fields.Given as goal

-- the text so far and the fields that are left make the whole text
abbrev pub invariant-loop-place : goal.invariant-loop-place
invariant-loop-place l = l.output ++ text_of_each (field_text l.p l.kind) l.place (drop l.place l.fields) ≡ l.fn.output ++ text_of_each (field_text l.p l.kind) 0 l.fields
