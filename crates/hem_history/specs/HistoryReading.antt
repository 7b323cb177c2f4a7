-- What the reader of histories answers.
use Rattle.std.specs.Prelude.{◌≡◌, List}
use Rattle.hem_base.specs.declared.ids.Firing.{Firing}
use Rattle.hem_text.specs.Lexemes.{Lexeme}
use Rattle.hem_text.specs.Grammars.{state}
use Rattle.hem_text.specs.Parts.{IsPart}
use Rattle.hem_syntax.specs.Protocol.{Protocol}
use Rattle.hem_history.specs.Grammar.{Read, grammar, nothing, start}

-- the tokens ts begin with a history over the protocol's rule names, the rest are those after it, and these are its firings
pub record ReadsHistory (p : Protocol) (ts rest : List Lexeme) (firings : List Firing) : Type 0 where
  pub read : Read
  pub part : IsPart grammar (state (nothing p) start) ts rest read
  pub says : firings ≡ read.firings
