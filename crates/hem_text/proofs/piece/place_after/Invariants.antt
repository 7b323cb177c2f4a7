use Rattle.std.proofs.Common.{◌≡◌, ◌+◌, ◌≤◌, take}
use Rattle.std.specs.Prelude.{fold}
use Rattle.hem_text.specs.declared.text.Place.{Place}
use Rattle.hem_text.specs.Tokens.{advance}
use Rattle.hem_text.proofs.piece.place_after.Given as goal

abbrev pub invariant-loop-b : goal.invariant-loop-b
invariant-loop-b l =
    let now : Place = record { line = l.line; column = l.column } in
    record {
      so_far : now ≡ fold advance l.fn.place (take l.b-index l.bytes);
      line : l.line ≤ l.fn.place.line + l.b-index;
      column : l.column ≤ l.fn.place.column + l.b-index;
      first : 1 ≤ l.column;
    }
