-- What it means that a protocol's canonical text reads as that protocol.
use Rattle.std.specs.Prelude.{◌≡◌, length}
use Rattle.hem_text.specs.Grammars.{state, Reads}
use Rattle.hem_text.specs.Tokens.{tokens_of}
use Rattle.hem_grammar.specs.Grammar.{start}
use Rattle.hem_syntax.specs.Protocol.{Protocol}
use Rattle.hem_grammar.specs.Draft.{Read, grammar, nothing, protocol_of}
use Rattle.hem_print.specs.Canonical.{protocol_text}

-- all tokens of the protocol's canonical text are a document of the grammar, and what it says is the protocol
pub record ReadsBack (p : Protocol) : Type 0 where
  pub env : Read
  pub reads : Reads grammar (state nothing start) (tokens_of (protocol_text p)) (length (tokens_of (protocol_text p))) env
  pub says : protocol_of env ≡ p
