-- The tokens of a text.
use Rattle.std.specs.Prelude.{ℕ, zero, suc, ◌+◌, ◌-◌, ◌==◌, ◌||◌, ◌&&◌, Bool, false, not, List, [], ◌∷◌, take, Some, None, fold, if◌then◌else◌}
use Rattle.std.specs.List.{prefix_len, list_all}
use Rattle.std.specs.Char.{is_ascii_alphabetic, is_ascii_digit}
use Rattle.hem_text.specs.Lexemes.{Lexeme}
use Rattle.hem_text.specs.declared.text.Place.{Place}
use Rattle.hem_text.specs.declared.text.TokenKind.{TokenKind}
use Rattle.hem_text.specs.declared.text.TokenKind.TheVariants.{Word, Number, Sign, Bad}
use Rattle.hem_text.specs.declared.text.Piece.{Piece}
use Rattle.hem_base.specs.Words.{is_word_byte}

-- white space: space, tab, carriage return, line feed
abbrev pub is_space : ℕ → Bool
is_space b = b == 32 || b == 9 || b == 13 || b == 10

-- the byte # begins a comment
abbrev pub begins_comment : ℕ → Bool
begins_comment b = b == 35

-- a comment goes on to before the next line feed
abbrev pub is_not_line_feed : ℕ → Bool
is_not_line_feed b = not (b == 10)

-- the signs of one byte: ( ) , = |
abbrev pub is_sign : ℕ → Bool
is_sign b = b == 40 || b == 41 || b == 44 || b == 61 || b == 124

-- the signs of two bytes, := and !=, at the front
abbrev pub is_pair : List ℕ → Bool
is_pair [] = false
is_pair (a ∷ []) = false
is_pair (a ∷ b ∷ bs) = (a == 58 || a == 33) && b == 61

-- a run that begins with a letter is a word, one of digits alone is a number, any other is bad
abbrev pub kind_of_run : List ℕ → TokenKind
kind_of_run [] = Bad
kind_of_run (b ∷ bs) =
    if is_ascii_alphabetic b then Word
    else if list_all is_ascii_digit (b ∷ bs) then Number
    else Bad

-- the same of a run, by whether its first byte is a letter, and how many bytes come after its first digits
abbrev pub kind_by : Bool → ℕ → TokenKind
kind_by letter others = if letter then Word else if others == 0 then Number else Bad

-- n bytes that are no token
abbrev pub between : ℕ → Piece
between n = record { kind = None; len = n }

-- a token of n bytes
abbrev pub token : TokenKind → ℕ → Piece
token kind n = record { kind = Some kind; len = n }

-- the longest run at the front
abbrev pub run_at : List ℕ → Piece
run_at bytes = token (kind_of_run (take (prefix_len is_word_byte bytes) bytes)) (prefix_len is_word_byte bytes)

-- what stands at the front: white space, a comment, a run, a sign, or one bad byte
abbrev pub piece_of : List ℕ → Piece
piece_of [] = between 0
piece_of (b ∷ bs) =
    if is_space b then between 1
    else if begins_comment b then between (prefix_len is_not_line_feed (b ∷ bs))
    else if is_word_byte b then run_at (b ∷ bs)
    else if is_pair (b ∷ bs) then token Sign 2
    else if is_sign b then token Sign 1
    else token Bad 1

-- the place after a byte: a line feed ends a line, and each other byte takes a column
abbrev pub advance : Place → ℕ → Place
advance p b = if b == 10 then record { line = p.line + 1; column = 1 } else record { line = p.line; column = p.column + 1 }

-- the piece's token, if it is one, before the other tokens: it has the first bytes, of which the first stands at this place
abbrev pub with_token : Piece → Place → List ℕ → List Lexeme → List Lexeme
with_token piece place bytes others = elim piece.kind [ None ↦ others | Some k ↦ record { kind = k; text = take piece.len bytes; place = place } ∷ others ]

-- the tokens of the bytes from this place on, of which the first n belong to the piece before them
abbrev pub tokens_from : ℕ → Place → List ℕ → List Lexeme
tokens_from n place [] = []
tokens_from (suc n) place (b ∷ bs) = tokens_from n (advance place b) bs
tokens_from zero place (b ∷ bs) =
    with_token (piece_of (b ∷ bs)) place (b ∷ bs) (tokens_from ((piece_of (b ∷ bs)).len - 1) (advance place b) bs)

-- the place of the first byte
abbrev pub start_place : Place
start_place = record { line = 1; column = 1 }

-- the tokens of a text, in order
abbrev pub tokens_of : List ℕ → List Lexeme
tokens_of bytes = tokens_from 0 start_place bytes

-- the place of the end: just after the last byte
abbrev pub end_place : List ℕ → Place
end_place bytes = fold advance start_place bytes
