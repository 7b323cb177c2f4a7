use Rattle.std.proofs.Common.{◌<◌, ◌≤◌, ◌+◌, ◌*◌}
use Rattle.hem_walk.proofs.Bits.{NoneUntil}
use Rattle.hem_walk.proofs.marks.Marks.next.Given as goal

-- there is none so far
abbrev pub invariant-loop-place : goal.invariant-loop-place
invariant-loop-place l =
    record {
      within : l.first < 64;
      past : l.from ≤ 64 * l.place + l.first;
      none : NoneUntil l.self l.from (64 * l.place + l.first);
    }
