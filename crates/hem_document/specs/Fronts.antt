-- What stands at the front of tokens: a protocol, and after it a tree, a work and a history, as far as they are wanted.
use Rattle.std.specs.Prelude.{◌⊎◌, List}
use Rattle.hem_text.specs.declared.text.Place.{Place}
use Rattle.hem_text.specs.declared.reader.TextFault.{TextFault}
use Rattle.hem_text.specs.declared.reader.TextError.{TextError}
use Rattle.hem_text.specs.declared.reader.TextError.TheVariants.{Text, OutOfMemory}
use Rattle.hem_text.specs.Lexemes.{Lexeme}
use Rattle.hem_text.specs.Grammars.{state}
use Rattle.hem_text.specs.Faults.{IsFirstFault}
use Rattle.hem_syntax.specs.Protocol.{Protocol}
use Rattle.hem_parser.specs.ProtocolReading.{ReadsProtocol, IsFirstProtocolFault}
use Rattle.hem_tree.specs.Grammar as tree
use Rattle.hem_tree.specs.TreeReading.{ReadsTree}
use Rattle.hem_work.specs.Grammar as work
use Rattle.hem_work.specs.WorkReading.{ReadsWork}
use Rattle.hem_history.specs.Grammar as history
use Rattle.hem_history.specs.HistoryReading.{ReadsHistory}
use Rattle.hem_document.specs.declared.documents.TreeDocument.{TreeDocument}
use Rattle.hem_document.specs.declared.documents.WorkDocument.{WorkDocument}
use Rattle.hem_document.specs.declared.documents.Document.{Document}

-- the tokens ts begin with a protocol and a tree, and the rest are those after the tree
pub record ReadsToTree (ts rest : List Lexeme) (d : TreeDocument) : Type 0 where
  pub after_protocol : List Lexeme
  pub protocol : ReadsProtocol ts after_protocol d.protocol
  pub tree : ReadsTree after_protocol rest d.tree

-- a document without its work
abbrev pub to_tree : WorkDocument → TreeDocument
to_tree d = record { protocol = d.protocol; tree = d.tree }

-- the tokens ts begin with a protocol, a tree and a work over its messages, and the rest are those after the work
pub record ReadsToWork (ts rest : List Lexeme) (d : WorkDocument) : Type 0 where
  pub after_tree : List Lexeme
  pub before : ReadsToTree ts after_tree (to_tree d)
  pub work : ReadsWork d.protocol after_tree rest d.work

-- the tokens ts begin with a protocol, a tree, a work and a history over its rules, and the rest are those after the history
pub record ReadsToHistory (ts rest : List Lexeme) (d : Document) : Type 0 where
  pub after_work : List Lexeme
  pub setup : ReadsToWork ts after_work d.setup
  pub history : ReadsHistory d.setup.protocol after_work rest d.history

-- the first fault of tokens where a protocol and a tree are wanted: the protocol's, or where it stands the tree's
abbrev pub IsFaultToTree : List Lexeme → Place → TextFault → Type 0
IsFaultToTree ts end f =
    IsFirstProtocolFault ts end (Text f)
    ⊎ ((rest : List Lexeme) × (p : Protocol) × ReadsProtocol ts rest p × IsFirstFault tree.grammar (state tree.nothing tree.start) rest end (Text f))

-- the first fault of tokens where a protocol, a tree and a work are wanted
abbrev pub IsFaultToWork : List Lexeme → Place → TextFault → Type 0
IsFaultToWork ts end f =
    IsFaultToTree ts end f
    ⊎ ((rest : List Lexeme) × (d : TreeDocument) × ReadsToTree ts rest d × IsFirstFault work.grammar (state (work.nothing d.protocol) work.start) rest end (Text f))

-- the first fault of tokens where a protocol, a tree, a work and a history are wanted
abbrev pub IsFaultToHistory : List Lexeme → Place → TextFault → Type 0
IsFaultToHistory ts end f =
    IsFaultToWork ts end f
    ⊎ ((rest : List Lexeme) × (d : WorkDocument) × ReadsToWork ts rest d × IsFirstFault history.grammar (state (history.nothing d.protocol) history.start) rest end (Text f))

-- the fact holds of the fault, unless memory ran out
abbrev pub OfFault : (TextFault → Type 0) → TextError → Type 0
OfFault P (Text f) = P f
OfFault P OutOfMemory = Unit {0}
