use Rattle.std.proofs.Common.{◌≡◌, ◌++◌, drop}
use Rattle.hem_report.specs.Texts.{text_of_each}
use Rattle.hem_report.specs.StateText.{line_text}
use Rattle.hem_report.proofs.states.write_lines.Given as goal

-- the text so far and the lines that are left make the whole text
abbrev pub invariant-loop-line : goal.invariant-loop-line
invariant-loop-line l = l.output ++ text_of_each (line_text l.p l.tree) l.line (drop l.line l.s) ≡ l.fn.output ++ text_of_each (line_text l.p l.tree) 0 l.s
