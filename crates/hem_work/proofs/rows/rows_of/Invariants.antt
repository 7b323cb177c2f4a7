use Rattle.std.proofs.Common.{◌≡◌, take}
use Rattle.hem_work.specs.Building.{table_of}
use Rattle.hem_work.proofs.rows.rows_of.Given as goal

abbrev pub invariant-loop-entry : goal.invariant-loop-entry
invariant-loop-entry l = l.rows ≡ table_of (take l.entry-index l.entries) l.lines l.objects
