-- A token, as readers and grammars see it.
use Rattle.std.specs.Prelude.{ℕ, List}
use Rattle.hem_text.specs.declared.text.TokenKind.{TokenKind}
use Rattle.hem_text.specs.declared.text.Place.{Place}

-- a token of a text: its kind, its bytes, and the place of the first of them
pub record Lexeme : Type 0 where
  pub kind : TokenKind
  pub text : List ℕ
  pub place : Place
