use Rattle.std.proofs.Common.{rules}
use Rattle.hem_parser.specs.ProtocolReading.{IsProtocolOf, IsShippedAs}
use Rattle.hem_parser.proofs.Using.{if_ok, shipped_as}
use Rattle.hem_parser.proofs.shipped_text.by_name.Goals as goal

pub returns-in-Some : goal.returns-in-Some
returns-in-Some c = if_ok (IsProtocolOf c.as_bytes.result.now) (IsShippedAs c.args.name.now) c.whole.result (λ o. shipped_as c.args.name.now c.as_bytes.result.now o (search rules)) c.whole.ensures
