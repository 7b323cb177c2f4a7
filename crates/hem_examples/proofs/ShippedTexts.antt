-- The shipped texts are the canonical texts of the protocols here, by computation.
use Rattle.std.specs.Prelude.{◌≡◌, refl, Some, codes}
use Rattle.std.proofs.Common.{sym}
use Rattle.std.proofs.Math.Seq.{drop-length}
use Rattle.hem_text.specs.Tokens.{tokens_of}
use Rattle.hem_syntax.specs.Lawful.{IsProtocol}
use Rattle.hem_syntax.specs.Protocol.{Protocol, Text}
use Rattle.hem_parser.specs.ProtocolReading.{IsWhole}
use Rattle.hem_shipped.specs.Texts.{text_of, text_of_lines}
use Rattle.hem_shipped.specs.MsiInclusive.{msi_inclusive_lines}
use Rattle.hem_shipped.specs.MesiInclusive.{mesi_inclusive_lines}
use Rattle.hem_shipped.specs.MsiNoninclusive.{msi_noninclusive_lines}
use Rattle.hem_shipped.specs.MesiNoninclusive.{mesi_noninclusive_lines}
use Rattle.hem_print.specs.Canonical.{protocol_text}
use Rattle.hem_print.proofs.Reading.{reads_back}
use Rattle.hem_examples.specs.Msi.{msi as msi_inclusive}
use Rattle.hem_examples.specs.MesiInclusive.{mesi_inclusive}
use Rattle.hem_examples.specs.MsiNoninclusive.{msi_noninclusive}
use Rattle.hem_examples.specs.MesiNoninclusive.{mesi_noninclusive}
use Rattle.hem_examples.specs.ShippedTexts.{IsShippedUnder}
use Rattle.hem_examples.proofs.Accepted.{msi_is}
use Rattle.hem_examples.proofs.Shipped.{mesi_is, msi_noninclusive_is, mesi_noninclusive_is}

msi_text : text_of (codes "msi_inclusive") ≡ Some (protocol_text msi_inclusive)
unfolding text_of_lines msi_inclusive_lines
msi_text = refl

mesi_text : text_of (codes "mesi_inclusive") ≡ Some (protocol_text mesi_inclusive)
unfolding text_of_lines mesi_inclusive_lines
mesi_text = refl

msi_noninclusive_text : text_of (codes "msi_noninclusive") ≡ Some (protocol_text msi_noninclusive)
unfolding text_of_lines msi_noninclusive_lines
msi_noninclusive_text = refl

mesi_noninclusive_text : text_of (codes "mesi_noninclusive") ≡ Some (protocol_text mesi_noninclusive)
unfolding text_of_lines mesi_noninclusive_lines
mesi_noninclusive_text = refl

-- all of the canonical text says the protocol
whole : (p : Protocol) → IsProtocol p → IsWhole (protocol_text p) p
whole p good =
    let back = reads_back p good in
    record { count = _; read = back.env; reads = back.reads; others = sym (drop-length (tokens_of (protocol_text p))); says = sym back.says }

-- a name under which the canonical text is shipped is one of the protocol
shipped : (name : Text) (p : Protocol) → IsProtocol p → text_of name ≡ Some (protocol_text p) → IsShippedUnder name p
shipped name p good text = record { text = text; says = record { text = protocol_text p; there = text; whole = whole p good } }

pub msi_shipped : IsShippedUnder (codes "msi_inclusive") msi_inclusive
msi_shipped = shipped (codes "msi_inclusive") msi_inclusive msi_is.protocol msi_text

pub mesi_shipped : IsShippedUnder (codes "mesi_inclusive") mesi_inclusive
mesi_shipped = shipped (codes "mesi_inclusive") mesi_inclusive mesi_is.protocol mesi_text

pub msi_noninclusive_shipped : IsShippedUnder (codes "msi_noninclusive") msi_noninclusive
msi_noninclusive_shipped = shipped (codes "msi_noninclusive") msi_noninclusive msi_noninclusive_is.protocol msi_noninclusive_text

pub mesi_noninclusive_shipped : IsShippedUnder (codes "mesi_noninclusive") mesi_noninclusive
mesi_noninclusive_shipped = shipped (codes "mesi_noninclusive") mesi_noninclusive mesi_noninclusive_is.protocol mesi_noninclusive_text
