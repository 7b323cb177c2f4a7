use Rattle.std.proofs.Common.{◌∙◌, ◌-◌, length, drop, arith, rules}
use Rattle.std.proofs.lemmas.List.{take_rest, length-take, length-drop}
use Rattle.hem_text.proofs.Cut.{passed, moved_is, ended}
use Rattle.hem_text.proofs.cursor.Cursor.next.Goals as goal

pub invariant_of-self : goal.invariant_of-self
invariant_of-self c = rw c.loop-left.invariant.kept c.self.invariant

pub returns-in-Some-clause-moved : goal.returns-in-Some-clause-moved
returns-in-Some-clause-moved c =
    rw (take_rest c.loop-left.left.now c.piece_at-piece.result.len)
    (moved_is c.loop-left.left.now c.loop-left.place c.place_behind-after.result c.piece_at-piece.result (search rules) c.piece_at-piece.ensures.same c.piece_at-piece.ensures.some c.place_behind-after.ensures.same c.in-Some.kind c.args.self.now c.in-Some.is c.loop-left.invariant.whole)

pub loop-left-preserved : goal.loop-left-preserved
loop-left-preserved c =
    let bytes = c.loop-left.left.now in
    let len = c.piece_at-piece.result.len in
    record {
      kept = c.loop-left.invariant.kept;
      whole =
          rw (take_rest c.loop-left.left.now c.piece_at-piece.result.len)
          (passed c.loop-left.left.now c.loop-left.place c.place_behind-after.result c.piece_at-piece.result (search rules) c.piece_at-piece.ensures.same c.piece_at-piece.ensures.some c.place_behind-after.ensures.same c.in_default.is)
          ∙ c.loop-left.invariant.whole;
      line = omega (arith, c.loop-left.invariant.line, c.place_behind-after.ensures.line, length-take len bytes, length-take (length bytes - len) (drop len bytes), length-drop len bytes);
      column = omega (arith, c.loop-left.invariant.column, c.place_behind-after.ensures.column, length-take len bytes, length-take (length bytes - len) (drop len bytes), length-drop len bytes);
      first = c.place_behind-after.ensures.first c.loop-left.invariant.first;
    }

pub returns-clause-moved : goal.returns-clause-moved
returns-clause-moved c = rw c.loop-left.invariant.kept (c.self.view_is ∙ ended c.loop-left.place c.loop-left.left.now c.args.self.now (search rules) c.loop-left.invariant.whole)
