-- What a cursor has still to read.
use Rattle.std.specs.Prelude.{ℕ, List, fold}
use Rattle.hem_text.specs.declared.text.Place.{Place}
use Rattle.hem_text.specs.Lexemes.{Lexeme}
use Rattle.hem_text.specs.Tokens.{tokens_from, advance, start_place}

-- the tokens that are left of a text, in order, and the place of its end
pub record Unread : Type 0 where
  pub tokens : List Lexeme
  pub end : Place

-- what is left where these bytes are, and the first of them stands at this place
abbrev pub unread_from : Place → List ℕ → Unread
unread_from place bytes = record { tokens = tokens_from 0 place bytes; end = fold advance place bytes }

-- a whole text
abbrev pub unread_of : List ℕ → Unread
unread_of bytes = unread_from start_place bytes
