-- Documents to play: modules, what their queues are fed, and then the end.
use Rattle.std.specs.Prelude.{◌⊎◌, ℕ, List, []}
use Rattle.hem_text.specs.declared.text.Place.{Place}
use Rattle.hem_text.specs.declared.reader.TextFault.{TextFault}
use Rattle.hem_text.specs.declared.reader.TextError.TheVariants.{Text}
use Rattle.hem_text.specs.Lexemes.{Lexeme}
use Rattle.hem_text.specs.Tokens.{tokens_of}
use Rattle.hem_text.specs.Grammars.{state}
use Rattle.hem_text.specs.Faults.{IsFirstFault}
use Rattle.hem_module.specs.Modules.{Modules}
use Rattle.hem_modtext.specs.Grammar as modules_grammar
use Rattle.hem_modtext.specs.Draft as modules
use Rattle.hem_modtext.specs.ModulesReading.{ReadsModules}
use Rattle.hem_modtext.specs.Feeding as feed
use Rattle.hem_modtext.specs.Feeding.{ReadsFeed}
use Rattle.hem_document.specs.declared.documents.PlayDocument.{PlayDocument}
use Rattle.hem_document.specs.Documents.{IsPartsFault}

-- the tokens ts begin with modules and a feed of their queues, and the rest are those after the feed
pub record ReadsToFeed (ts rest : List Lexeme) (d : PlayDocument) : Type 0 where
  pub after_modules : List Lexeme
  pub modules : ReadsModules ts after_modules d.modules
  pub feed : ReadsFeed d.modules after_modules rest d.feed

-- the first fault of tokens where modules and a feed are wanted: the modules', or where they stand the feed's
abbrev pub IsFaultToFeed : List Lexeme → Place → TextFault → Type 0
IsFaultToFeed ts end f =
    IsFirstFault modules.grammar (state modules.nothing modules_grammar.start) ts end (Text f)
    ⊎ ((rest : List Lexeme) × (m : Modules) × ReadsModules ts rest m × IsFirstFault feed.grammar (state (feed.nothing m) feed.start) rest end (Text f))

-- the bytes are modules and a feed
abbrev pub IsPlayDocument : List ℕ → PlayDocument → Type 0
IsPlayDocument bytes d = ReadsToFeed (tokens_of bytes) [] d

-- the first fault of bytes that are to be modules and a feed
abbrev pub IsPlayDocumentFault : List ℕ → TextFault → Type 0
IsPlayDocumentFault bytes f = IsPartsFault ReadsToFeed IsFaultToFeed bytes f
