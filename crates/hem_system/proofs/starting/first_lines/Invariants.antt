use Rattle.std.proofs.Common.{◌≡◌, map}
use Rattle.hem_tree.specs.Tree.{below}
use Rattle.hem_work.specs.Work.{requests_of}
use Rattle.hem_system.specs.State.{first_line}
use Rattle.hem_system.specs.Cells.{state_of}
use Rattle.hem_system.proofs.starting.first_lines.Given as goal

-- the lines so far are as at the start
abbrev pub invariant-loop-line : goal.invariant-loop-line
invariant-loop-line l = state_of l.lines ≡ map (λ k. first_line l.p l.tree (requests_of l.work k)) (below l.line)
