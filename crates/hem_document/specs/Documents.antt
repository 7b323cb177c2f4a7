-- Documents: the parts that a job wants, one after another, and then the end.
use Rattle.std.specs.Prelude.{◌≡◌, ◌⊎◌, ℕ, List, [], Some, slice_get}
use Rattle.hem_text.specs.declared.text.Place.{Place}
use Rattle.hem_text.specs.declared.text.Cause.TheVariants.{Expected}
use Rattle.hem_text.specs.declared.reader.TextFault.{TextFault}
use Rattle.hem_text.specs.declared.reader.TextError.TheVariants.{Text}
use Rattle.hem_text.specs.Lexemes.{Lexeme}
use Rattle.hem_text.specs.Tokens.{tokens_of, end_place}
use Rattle.hem_syntax.specs.Protocol.{Protocol}
use Rattle.hem_parser.specs.ProtocolReading.{ReadsProtocol, IsFirstProtocolFault}
use Rattle.hem_document.specs.declared.documents.TreeDocument.{TreeDocument}
use Rattle.hem_document.specs.declared.documents.WorkDocument.{WorkDocument}
use Rattle.hem_document.specs.declared.documents.Document.{Document}
use Rattle.hem_document.specs.Fronts.{ReadsToTree, ReadsToWork, ReadsToHistory, IsFaultToTree, IsFaultToWork, IsFaultToHistory}

-- a token stands where the end is expected
pub record IsTooLong (rest : List Lexeme) (f : TextFault) : Type 0 where
  pub next : Lexeme
  pub there : slice_get rest 0 ≡ Some next
  pub cause : f.cause ≡ Expected
  pub place : f.place ≡ next.place

-- the bytes are a protocol
abbrev pub IsProtocolDocument : List ℕ → Protocol → Type 0
IsProtocolDocument bytes p = ReadsProtocol (tokens_of bytes) [] p

-- the bytes are a protocol and a tree
abbrev pub IsTreeDocument : List ℕ → TreeDocument → Type 0
IsTreeDocument bytes d = ReadsToTree (tokens_of bytes) [] d

-- the bytes are a protocol, a tree and a work
abbrev pub IsWorkDocument : List ℕ → WorkDocument → Type 0
IsWorkDocument bytes d = ReadsToWork (tokens_of bytes) [] d

-- the bytes are a protocol, a tree, a work and a history
abbrev pub IsDocument : List ℕ → Document → Type 0
IsDocument bytes d = ReadsToHistory (tokens_of bytes) [] d

-- the fault of bytes: the first at the parts, or where they stand a token after them
abbrev pub IsPartsFault : {D : Type 0} → (List Lexeme → List Lexeme → D → Type 0) → (List Lexeme → Place → TextFault → Type 0) → List ℕ → TextFault → Type 0
IsPartsFault {D} R F bytes f = F (tokens_of bytes) (end_place bytes) f ⊎ ((rest : List Lexeme) × (d : D) × R (tokens_of bytes) rest d × IsTooLong rest f)

-- the first fault of bytes that are to be a protocol
abbrev pub IsProtocolDocumentFault : List ℕ → TextFault → Type 0
IsProtocolDocumentFault bytes f = IsPartsFault ReadsProtocol (λ ts end g. IsFirstProtocolFault ts end (Text g)) bytes f

-- the first fault of bytes that are to be a protocol and a tree
abbrev pub IsTreeDocumentFault : List ℕ → TextFault → Type 0
IsTreeDocumentFault bytes f = IsPartsFault ReadsToTree IsFaultToTree bytes f

-- the first fault of bytes that are to be a protocol, a tree and a work
abbrev pub IsWorkDocumentFault : List ℕ → TextFault → Type 0
IsWorkDocumentFault bytes f = IsPartsFault ReadsToWork IsFaultToWork bytes f

-- the first fault of bytes that are to be a protocol, a tree, a work and a history
abbrev pub IsDocumentFault : List ℕ → TextFault → Type 0
IsDocumentFault bytes f = IsPartsFault ReadsToHistory IsFaultToHistory bytes f

-- there is at most one reading and at most one first fault, and never both
pub record IsExact {A : Type 0} (R : A → Type 0) (F : TextFault → Type 0) : Type 0 where
  pub once : (a b : A) → R a → R b → a ≡ b
  pub fault_once : (f g : TextFault) → F f → F g → f ≡ g
  pub excludes : (a : A) (f : TextFault) → R a → F f → ⊥
