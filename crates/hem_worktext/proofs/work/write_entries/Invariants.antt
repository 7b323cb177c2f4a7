use Rattle.std.proofs.Common.{◌≡◌, ◌<◌, ℕ, ◌++◌}
use Rattle.std.specs.Prelude.{flat_map}
use Rattle.hem_tree.specs.Tree.{below}
use Rattle.hem_work.specs.Work.{requests_of}
use Rattle.hem_worktext.specs.ReadsBack.{AreNumbers}
use Rattle.hem_worktext.specs.WorkText.{entry_if_any}
use Rattle.hem_worktext.proofs.work.write_entries.Given as goal

abbrev pub invariant-loop-line : goal.invariant-loop-line
invariant-loop-line l = record {
  text : l.output ≡ l.initial.output ++ flat_map (λ line. entry_if_any l.p l.o line (requests_of l.work line l.o)) (below l.line);
  numbers : (line : ℕ) → line < l.line → AreNumbers (requests_of l.work line l.o);
}
