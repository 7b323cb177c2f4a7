use Rattle.std.proofs.Common.{◌≡◌, ◌*◌}
use Rattle.std.specs.Prelude.{map}
use Rattle.hem_tree.specs.Tree.{below}
use Rattle.hem_work.specs.Generator.{number_after}
use Rattle.hem_work.specs.Made.{request_after, table_with}
use Rattle.hem_work.proofs.made.rows_with.Given as goal

abbrev pub invariant-loop-k : goal.invariant-loop-k
invariant-loop-k l = record {
  rows : l.rows ≡ table_with l.work (map (request_after l.choices l.seed) (below l.k)) l.objects;
  number : l.generator ≡ number_after l.seed (3 * l.k);
}
