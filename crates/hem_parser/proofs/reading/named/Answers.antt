use Rattle.std.proofs.Common.{sym, ◌∙◌}
use Rattle.hem_parser.specs.ProtocolReading.{IsShippedAs, IsUsedAs}
use Rattle.hem_parser.proofs.Using.{if_ok, used_as}
use Rattle.hem_parser.proofs.reading.named.Goals as goal

pub returns-then-is_name : goal.returns-then-is_name
returns-then-is_name c = if_ok (IsShippedAs c.args.token.now.text) (IsUsedAs c.args.token.now) c.by_name.result (λ o. used_as c.args.token.now o (sym c.is_name.ensures ∙ c.if-is_name.true)) (rw c.text.ensures at c.by_name.ensures)
