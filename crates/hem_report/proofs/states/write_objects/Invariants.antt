use Rattle.std.proofs.Common.{◌≡◌, ◌++◌, [], drop}
use Rattle.std.specs.Prelude.{slice_index_or}
use Rattle.hem_report.specs.Texts.{text_of_each}
use Rattle.hem_report.specs.StateText.{object_text}
use Rattle.hem_report.proofs.states.write_objects.Given as goal

-- the text so far and the objects that are left make the whole text
abbrev pub invariant-loop-object : goal.invariant-loop-object
invariant-loop-object l = l.output ++ text_of_each (object_text l.p l.tree) l.object (drop l.object (slice_index_or l.s l.line [])) ≡ l.fn.output ++ text_of_each (object_text l.p l.tree) 0 (slice_index_or l.s l.line [])
