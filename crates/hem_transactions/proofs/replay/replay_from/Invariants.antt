use Rattle.std.proofs.Common.{◌≡◌, length, take}
use Rattle.hem_system.specs.State.{Runs}
use Rattle.hem_transactions.specs.Carried.{HaveLists}
use Rattle.hem_transactions.proofs.Going.{GoesOn}
use Rattle.hem_transactions.proofs.replay.replay_from.Given as goal

-- the firings so far lead to the state now, and the numbers so far with those of what is left are all
abbrev pub invariant-loop-place : goal.invariant-loop-place
invariant-loop-place l = record {
  size : length l.lines ≡ length l.system;
  lists : HaveLists l.tree l.lines;
  runs : Runs l.p l.tree l.fn.system (take l.place l.history) l.system;
  goes : GoesOn l.p l.tree l.fn.system l.history l.place l.system l.lines l.numbers;
}
