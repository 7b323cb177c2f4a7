-- The shipped protocols as texts and as the protocols that are shown to be disciplined.
use Rattle.std.specs.Prelude.{◌≡◌, Some}
use Rattle.hem_syntax.specs.Protocol.{Protocol, Text}
use Rattle.hem_parser.specs.ProtocolReading.{IsShipped}
use Rattle.hem_print.specs.Canonical.{protocol_text}
use Rattle.hem_shipped.specs.Texts.{text_of}

-- the text that is shipped under a name is the protocol's canonical text, and all of it says the protocol
pub record IsShippedUnder (name : Text) (p : Protocol) : Type 0 where
  pub text : text_of name ≡ Some (protocol_text p)
  pub says : IsShipped name p
