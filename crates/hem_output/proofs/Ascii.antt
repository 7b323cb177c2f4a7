-- Words are ASCII.
use Rattle.std.proofs.Common.{◌≡◌, refl, ℕ, ◌<◌, zero, suc, List, [], ◌∷◌, Bool, true, false, arith}
use Rattle.std.proofs.lemmas.Bool.Decides.{nat_tests}
use Rattle.std.proofs.lemmas.Str.{IsUtf8-from_ascii}
use Rattle.std.specs.Prelude.{◌&&◌, IsTrue}
use Rattle.std.specs.List.{list_all}
use Rattle.std.specs.Str.{IsAscii, IsUtf8}
use Rattle.std.specs.Char.{is_ascii_alphabetic}
use Rattle.hem_base.specs.Words.{is_word_byte, is_word_text, word_bytes}
use Rattle.hem_base.specs.declared.words.Reserved.{Reserved}
use Rattle.hem_base.specs.declared.words.Reserved.TheVariants as word

-- both tests hold
first_of : (a b : Bool) → (a && b) ≡ true → a ≡ true
first_of true b h = refl
first_of false b h = h

second_of : (a b : Bool) → (a && b) ≡ true → b ≡ true
second_of true b h = h
second_of false b h = cc

-- a letter, a digit or _ is ASCII
byte_ascii : (b : ℕ) → is_word_byte b ≡ true → b < 128
byte_ascii b h = grind (arith, nat_tests)

letter_ascii : (b : ℕ) → is_ascii_alphabetic b ≡ true → b < 128
letter_ascii b h = grind (arith, nat_tests)

bytes_ascii : (bs : List ℕ) → list_all is_word_byte bs ≡ true → IsAscii bs
bytes_ascii [] h i = omega arith
bytes_ascii (b ∷ bs) h zero = byte_ascii b (first_of (is_word_byte b) _ h)
bytes_ascii (b ∷ bs) h (suc i) = bytes_ascii bs (second_of (is_word_byte b) _ h) i

-- a word is ASCII
word_ascii : (bs : List ℕ) → is_word_text bs ≡ true → IsAscii bs
word_ascii [] h i = omega arith
word_ascii (b ∷ bs) h zero = letter_ascii b (first_of (is_ascii_alphabetic b) _ h)
word_ascii (b ∷ bs) h (suc i) = bytes_ascii bs (second_of (is_ascii_alphabetic b) _ h) i

-- a word is UTF-8
pub word_utf8 : (bs : List ℕ) → IsTrue (is_word_text bs) → IsUtf8 bs
word_utf8 bs h = IsUtf8-from_ascii bs (word_ascii bs h)

-- a reserved word is a word
pub reserved_is_word : (w : Reserved) → IsTrue (is_word_text (word_bytes w))
reserved_is_word word.Protocol = refl
reserved_is_word _ = refl
