use Rattle.std.proofs.Common.{◌≡◌, ◌<◌, ℕ, ◌++◌}
use Rattle.std.specs.Prelude.{flat_map}
use Rattle.hem_tree.specs.Tree.{below}
use Rattle.hem_worktext.specs.ReadsBack.{HasNumbers}
use Rattle.hem_worktext.specs.WorkText.{head_text, entries_of}
use Rattle.hem_worktext.proofs.work.work_text.Given as goal

abbrev pub invariant-loop-o : goal.invariant-loop-o
invariant-loop-o l = record {
  text : l.output ≡ head_text l.work ++ flat_map (entries_of l.p l.work) (below l.o);
  numbers : (o : ℕ) → o < l.o → HasNumbers l.work o;
}
