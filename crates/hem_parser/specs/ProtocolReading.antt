-- What the reader of protocols answers:  PROTOCOL = use NAME | a protocol that is written out
use Rattle.std.specs.Prelude.{ℕ, ◌≡◌, Bool, true, false, IsTrue, List, [], ◌∷◌, drop, Option, None, Some, IfSome, slice_get, if◌then◌else◌}
use Rattle.hem_text.specs.declared.text.Place.{Place}
use Rattle.hem_text.specs.declared.text.Cause.{Cause}
use Rattle.hem_text.specs.declared.text.Cause.TheVariants.{Unknown, Expected}
use Rattle.hem_base.specs.declared.words.Reserved.TheVariants as word
use Rattle.hem_text.specs.Lexemes.{Lexeme}
use Rattle.hem_text.specs.Grammars.{State, state, Reads, IsFault}
use Rattle.hem_text.specs.Tokens.{tokens_of}
use Rattle.hem_text.specs.Spelling.{is_name, is_the_word}
use Rattle.hem_text.specs.Faults.{place_at}
use Rattle.hem_text.specs.declared.reader.TextError.{TextError}
use Rattle.hem_text.specs.declared.reader.TextError.TheVariants.{Text, OutOfMemory}
use Rattle.hem_shipped.specs.Texts.{text_of}
use Rattle.hem_grammar.specs.declared.terminals.Terminal.{Terminal}
use Rattle.hem_grammar.specs.declared.terminals.Item.{Item}
use Rattle.hem_syntax.specs.Protocol.{Protocol}
use Rattle.hem_grammar.specs.Grammar.{start}
use Rattle.hem_grammar.specs.Draft.{Read, grammar, nothing, protocol_of}

-- nothing is read yet
abbrev pub begin : State Read Terminal Item
begin = state nothing start

-- the tokens ts begin with a protocol that is written out, rest are those after it, and p is what it says
pub record IsWritten (ts rest : List Lexeme) (p : Protocol) : Type 0 where
  pub count : ℕ
  pub read : Read
  pub reads : Reads grammar begin ts count read
  pub others : rest ≡ drop count ts
  pub says : p ≡ protocol_of read

-- the whole text is a protocol that is written out, and p is what it says
abbrev pub IsWhole : List ℕ → Protocol → Type 0
IsWhole text p = IsWritten (tokens_of text) [] p

-- the text of the shipped protocol of that name, all of it, says p
pub record IsShipped (name : List ℕ) (p : Protocol) : Type 0 where
  pub text : List ℕ
  pub there : text_of name ≡ Some text
  pub whole : IsWhole text p

-- the protocol that the whole text is, if any
pub record IsProtocolOf (text : List ℕ) (o : Option Protocol) : Type 0 where
  pub some : IfSome o (IsWhole text)
  pub only : (p : Protocol) → IsWhole text p → o ≡ Some p

-- the shipped protocol of that name, if any
pub record IsShippedAs (name : List ℕ) (o : Option Protocol) : Type 0 where
  pub some : IfSome o (IsShipped name)
  pub only : (p : Protocol) → IsShipped name p → o ≡ Some p

-- the shipped protocol that a token names, if any
pub record IsUsedAs (name : Lexeme) (o : Option Protocol) : Type 0 where
  pub some : IfSome o (λ p. IsTrue (is_name name) × IsShipped name.text p)
  pub only : (p : Protocol) → IsTrue (is_name name) → IsShipped name.text p → o ≡ Some p

-- the first two tokens are `use` and the name of a shipped protocol, rest are those after them, and p is this protocol
pub record IsUse (ts rest : List Lexeme) (p : Protocol) : Type 0 where
  pub name : Lexeme
  pub there : slice_get ts 1 ≡ Some name
  pub word : IsTrue (is_name name)
  pub shipped : IsShipped name.text p
  pub others : rest ≡ drop 2 ts

-- whether the first token is `use`
abbrev pub begins_use : List Lexeme → Bool
begins_use [] = false
begins_use (t ∷ ts) = is_the_word word.Use t

-- the tokens ts begin with a protocol, rest are those after it, and p is what it says, with `use` in front or not
abbrev pub Says : Bool → List Lexeme → List Lexeme → Protocol → Type 0
Says true ts rest p = IsUse ts rest p
Says false ts rest p = IsWritten ts rest p

-- the tokens ts begin with a protocol, rest are those after it, and p is what it says
abbrev pub IsProtocolText : List Lexeme → List Lexeme → Protocol → Type 0
IsProtocolText ts rest p = Says (begins_use ts) ts rest p

-- why a token, or the end, can't stand after `use`
abbrev pub use_cause : Option Lexeme → Cause
use_cause None = Expected
use_cause (Some t) = if is_name t then Unknown else Expected

-- no shipped protocol is named at place k, which is that of the name, and the cause is this
pub record IsUseFault (ts : List Lexeme) (k : ℕ) (cause : Cause) : Type 0 where
  pub one : k ≡ 1
  pub unread : (rest : List Lexeme) (p : Protocol) → IsUse ts rest p → ⊥
  pub why : cause ≡ use_cause (slice_get ts 1)

-- the token at place k, or the end, is the first at which no protocol goes on, with `use` in front or not
abbrev pub Fails : Bool → List Lexeme → ℕ → Cause → Type 0
Fails true ts k cause = IsUseFault ts k cause
Fails false ts k cause = IsFault grammar begin ts k cause

-- the token at place k, or the end, is the first at which no protocol goes on, and the cause is this
abbrev pub IsProtocolFault : List Lexeme → ℕ → Cause → Type 0
IsProtocolFault ts k cause = Fails (begins_use ts) ts k cause

-- the tokens ts begin with a protocol, rest are those after it, p is what it says, they begin with no other, and there is no fault
pub record ReadsProtocol (ts rest : List Lexeme) (p : Protocol) : Type 0 where
  pub reads : IsProtocolText ts rest p
  pub only : (others : List Lexeme) (q : Protocol) → IsProtocolText ts others q → (others ≡ rest) × (q ≡ p)
  pub faultless : (k : ℕ) (cause : Cause) → IsProtocolFault ts k cause → ⊥

-- the same of a protocol that is written out
pub record ReadsWritten (ts rest : List Lexeme) (p : Protocol) : Type 0 where
  pub reads : IsWritten ts rest p
  pub only : (others : List Lexeme) (q : Protocol) → IsWritten ts others q → (others ≡ rest) × (q ≡ p)
  pub faultless : (k : ℕ) (cause : Cause) → IsFault grammar begin ts k cause → ⊥

-- the fault at place k is the only one, and no protocol stands at the front
pub record IsOnlyFault (ts : List Lexeme) (k : ℕ) (cause : Cause) : Type 0 where
  pub fault : IsProtocolFault ts k cause
  pub unread : (rest : List Lexeme) (p : Protocol) → IsProtocolText ts rest p → ⊥
  pub once : (j : ℕ) (other : Cause) → IsProtocolFault ts j other → (j ≡ k) × (other ≡ cause)

-- a refusal is the one fault of the tokens, at its place, and no protocol stands there, unless memory ran out
abbrev pub IsFirstProtocolFault : List Lexeme → Place → TextError → Type 0
IsFirstProtocolFault ts end OutOfMemory = Unit {0}
IsFirstProtocolFault ts end (Text f) = (k : ℕ) × IsOnlyFault ts k f.cause × (f.place ≡ place_at ts end k)
