-- What the reader of works answers.
use Rattle.std.specs.Prelude.{◌≡◌, List}
use Rattle.hem_text.specs.Lexemes.{Lexeme}
use Rattle.hem_text.specs.Grammars.{state}
use Rattle.hem_text.specs.Parts.{IsPart}
use Rattle.hem_syntax.specs.Protocol.{Protocol}
use Rattle.hem_work.specs.declared.raw.RawWork.{RawWork}
use Rattle.hem_work.specs.Grammar.{Read, grammar, nothing, start}

-- the work that has been read
abbrev pub raw_of : Read → RawWork
raw_of e = record { place = e.place; lines = e.lines; self_count = e.self_count; entries = e.entries }

-- the tokens ts begin with a work over the protocol's messages, the rest are those after it, and this is what it says
pub record ReadsWork (p : Protocol) (ts rest : List Lexeme) (raw : RawWork) : Type 0 where
  pub read : Read
  pub part : IsPart grammar (state (nothing p) start) ts rest read
  pub says : raw ≡ raw_of read
