-- What the job `make` prints.
use Rattle.std.specs.Prelude.{◌≡◌, ℕ, IsTrue, List, ◌∷◌, ◌++◌, Option, Some, None, if◌then◌else◌, codes}
use Rattle.std.specs.Option.{option_map_or}
use Rattle.hem_base.specs.Words.{is_word_text}
use Rattle.hem_base.specs.declared.words.Reserved.TheVariants as word
use Rattle.hem_text.specs.Lexemes.{Lexeme}
use Rattle.hem_text.specs.Tokens.{tokens_of}
use Rattle.hem_text.specs.Spelling.{is_the_word}
use Rattle.hem_syntax.specs.Protocol.{Text, Protocol}
use Rattle.hem_print.specs.Canonical.{protocol_text}
use Rattle.hem_tree.specs.Tree.{Tree}
use Rattle.hem_work.specs.Work.{Work}
use Rattle.hem_worktext.specs.TreeText.{tree_text}
use Rattle.hem_worktext.specs.WorkText.{work_text}

-- the name of the shipped protocol that a document uses: its second token, where the first is `use`
abbrev pub used_name : List Lexeme → Option Text
used_name (first ∷ name ∷ rest) = if is_the_word word.Use first then Some name.text else None
used_name _ = None

-- the name that a document uses, where it uses one, is a word
abbrev pub UsesWord : List ℕ → Type 0
UsesWord bytes = (name : Text) → used_name (tokens_of bytes) ≡ Some name → IsTrue (is_word_text name)

-- the line of a shipped protocol
abbrev pub use_line : Text → Text
use_line name = codes "use " ++ name ++ codes "\n"

-- the protocol of a document: its line `use NAME` where it has one, else its canonical text
abbrev pub protocol_part : List ℕ → Protocol → Text
protocol_part bytes p = option_map_or use_line (used_name (tokens_of bytes)) (protocol_text p)

-- a document of these bytes with another work
abbrev pub made_text : List ℕ → Protocol → Tree → Work → Text
made_text bytes p tree work = protocol_part bytes p ++ tree_text tree ++ work_text p work
