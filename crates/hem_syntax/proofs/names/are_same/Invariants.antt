use Rattle.std.proofs.Common.{◌≡◌, length, drop}
use Rattle.std.specs.Str.{bytes_eq}
use Rattle.hem_syntax.proofs.names.are_same.Given as goal

abbrev pub invariant-loop-place : goal.invariant-loop-place
invariant-loop-place l = record {
  long : length l.first ≡ length l.second;
  rest : bytes_eq (drop l.place l.first) (drop l.place l.second) ≡ bytes_eq l.first l.second;
}
