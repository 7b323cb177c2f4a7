use Rattle.std.proofs.Common.{◌≡◌, ◌<◌, length, ◌+◌, ◌≤◌, ◌^◌}
use Rattle.hem_text.specs.Unread.{unread_from}
use Rattle.hem_text.proofs.cursor.Cursor.next.Given as goal

abbrev pub invariant-loop-left : goal.invariant-loop-left
invariant-loop-left l = record {
  kept : l.self-inside ≡ l.initial.self-inside;
  whole : unread_from l.place l.left ≡ l.fn.self;
  line : l.place.line + length l.left < 2 ^ 32;
  column : l.place.column + length l.left < 2 ^ 32;
  first : 1 ≤ l.place.column;
}

abbrev pub decreases-loop-left : goal.decreases-loop-left
decreases-loop-left l = length l.left
