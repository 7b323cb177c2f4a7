-- The name of the shipped protocol that a document uses is a word.
use Rattle.std.proofs.Common.{◌≡◌, refl, sym, subst, Bool, true, false, List, [], ◌∷◌, Some, None, ℕ}
use Rattle.std.specs.Prelude.{IsTrue, ◌&&◌, if◌then◌else◌, not}
use Rattle.hem_base.specs.Words.{is_word_text, is_reserved}
use Rattle.hem_base.specs.declared.words.Reserved.TheVariants as word
use Rattle.hem_text.specs.Lexemes.{Lexeme}
use Rattle.hem_text.specs.Tokens.{tokens_of}
use Rattle.hem_text.specs.Spelling.{is_word, is_name, is_the_word}
use Rattle.hem_syntax.specs.Protocol.{Text, Protocol}
use Rattle.hem_parser.specs.ProtocolReading.{Says, ReadsProtocol}
use Rattle.hem_document.specs.declared.documents.WorkDocument.{WorkDocument}
use Rattle.hem_document.specs.Documents.{IsWorkDocument}
use Rattle.hem_cli.specs.Making.{used_name, UsesWord}

middle : (a b c : Bool) → (a && b && c) ≡ true → b ≡ true
middle true true c is = refl
middle true false c is = absurd cc
middle false b c is = absurd cc

-- a name is a word
name_word : (t : Lexeme) → IsTrue (is_name t) → IsTrue (is_word_text t.text)
name_word t is = middle (is_word t) (is_word_text t.text) (not (is_reserved t.text)) is

some_same : {A : Type 0} (x y : A) → Some x ≡ Some y → x ≡ y
some_same x y is = cc

used_by : (begins : Bool) (first second : Lexeme) (more rest : List Lexeme) (p : Protocol) (name : Text) → Says begins (first ∷ second ∷ more) rest p → (if begins then Some second.text else None) ≡ Some name → IsTrue (is_word_text name)
used_by true first second more rest p name said is =
    let here : IsTrue (is_word_text second.text) = subst (λ (t : Lexeme). IsTrue (is_word_text t.text)) (sym (some_same second said.name said.there)) (name_word said.name said.word) in
    subst (λ t. IsTrue (is_word_text t)) (some_same second.text name is) here
used_by false first second more rest p name said is = absurd cc

used_word : (ts rest : List Lexeme) (p : Protocol) → ReadsProtocol ts rest p → (name : Text) → used_name ts ≡ Some name → IsTrue (is_word_text name)
used_word [] rest p reads name is = absurd cc
used_word (first ∷ []) rest p reads name is = absurd cc
used_word (first ∷ second ∷ more) rest p reads name is = used_by (is_the_word word.Use first) first second more rest p name reads.reads is

-- of a document that reads
pub uses_word : (bytes : List ℕ) (d : WorkDocument) → IsWorkDocument bytes d → UsesWord bytes
uses_word bytes d reads = used_word (tokens_of bytes) _ d.protocol reads.before.protocol
