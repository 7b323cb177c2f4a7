-- What sort of token a token is.
use Rattle.std.specs.Prelude.{◌==◌, ◌&&◌, Bool, true, false, not}
use Rattle.std.specs.List.{list_all}
use Rattle.std.specs.Str.{bytes_eq}
use Rattle.hem_base.specs.Words.{is_reserved, is_word_text, word_bytes, sign_bytes}
use Rattle.hem_base.specs.declared.words.Reserved.{Reserved}
use Rattle.hem_base.specs.declared.words.Sign.{Sign}
use Rattle.hem_text.specs.Lexemes.{Lexeme}
use Rattle.hem_text.specs.declared.text.TokenKind.{TokenKind}
use Rattle.hem_text.specs.declared.text.TokenKind.TheVariants as kind

-- the kind of words
abbrev pub is_word_kind : TokenKind → Bool
is_word_kind kind.Word = true
is_word_kind _ = false

-- the kind of signs
abbrev pub is_sign_kind : TokenKind → Bool
is_sign_kind kind.Sign = true
is_sign_kind _ = false

-- the kind of numbers
abbrev pub is_number_kind : TokenKind → Bool
is_number_kind kind.Number = true
is_number_kind _ = false

-- whether a token is a word
abbrev pub is_word : Lexeme → Bool
is_word t = is_word_kind t.kind

-- whether a token is a number
abbrev pub is_number : Lexeme → Bool
is_number t = is_number_kind t.kind

-- whether a token is that reserved word
abbrev pub is_the_word : Reserved → Lexeme → Bool
is_the_word w t = is_word t && bytes_eq (word_bytes w) t.text

-- whether a token is that sign
abbrev pub is_the_sign : Sign → Lexeme → Bool
is_the_sign s t = is_sign_kind t.kind && bytes_eq (sign_bytes s) t.text

-- a number of value 0
abbrev pub is_zero : Lexeme → Bool
is_zero t = is_number t && list_all (λ b. b == 48) t.text

-- a word that isn't reserved
abbrev pub is_name : Lexeme → Bool
is_name t = is_word t && is_word_text t.text && not (is_reserved t.text)
