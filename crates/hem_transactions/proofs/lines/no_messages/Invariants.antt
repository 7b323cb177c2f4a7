use Rattle.std.proofs.Common.{◌≡◌, length}
use Rattle.hem_trace.specs.Tags.{no_tags}
use Rattle.hem_transactions.specs.Carried.{HaveLists, Carry}
use Rattle.hem_transactions.proofs.lines.no_messages.Given as goal

-- the lines so far have lists with no message
abbrev pub invariant-loop-line : goal.invariant-loop-line
invariant-loop-line l = record {
  size : length l.lines ≡ l._line;
  lists : HaveLists l.tree l.lines;
  none : Carry no_tags l.lines;
}
