use Rattle.std.proofs.Common.{◌≡◌, ◌++◌, map, drop}
use Rattle.hem_print.specs.Canonical.{lines_text, field_line}
use Rattle.hem_print.proofs.rules.write_fields.Given as goal

-- the text so far and the fields that are left make the whole text
abbrev pub invariant-loop-name : goal.invariant-loop-name
invariant-loop-name l = l.output ++ lines_text (map (field_line l.p) (drop l.name-index l.fields)) ≡ l.fn.output ++ lines_text (map (field_line l.p) l.fields)
