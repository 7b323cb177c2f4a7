use Rattle.std.proofs.Common.{◌≡◌, ◌≤◌, ◌-◌, [], length}
use Rattle.hem_work.specs.Building.{table_of}
use Rattle.hem_work.proofs.rows.empty_rows.Given as goal

abbrev pub invariant-loop-alloc : goal.invariant-loop-alloc
invariant-loop-alloc l = record {
  empty : l.rows ≡ table_of [] (length l.rows) l.objects;
  within : length l.rows ≤ l.lines;
}

abbrev pub decreases-loop-alloc : goal.decreases-loop-alloc
decreases-loop-alloc l = l.lines - length l.rows
