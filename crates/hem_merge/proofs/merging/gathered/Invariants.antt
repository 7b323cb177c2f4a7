use Rattle.std.proofs.Common.{◌≡◌, ◌++◌, drop}
use Rattle.hem_merge.specs.Journals.{all_of}
use Rattle.hem_merge.proofs.merging.gathered.Given as goal

abbrev pub invariant-loop-journal : goal.invariant-loop-journal
invariant-loop-journal l = l.all.items ++ all_of (drop l.journal-index l.journals) ≡ all_of l.journals
