use Rattle.std.proofs.Common.{sym, ◌∙◌}
use Rattle.hem_text.specs.Faults.{IsFirstFault}
use Rattle.hem_grammar.specs.Draft.{grammar}
use Rattle.hem_parser.specs.ProtocolReading.{begin, IsFirstProtocolFault}
use Rattle.hem_parser.proofs.Using.{if_err, fails_written}
use Rattle.hem_parser.proofs.reading.protocol.Goals as goal

pub returns-else-begins_use-clause-text : goal.returns-else-begins_use-clause-text
returns-else-begins_use-clause-text c =
    if_err (IsFirstFault grammar begin c.args.cursor.now.tokens c.args.cursor.now.end) (IsFirstProtocolFault c.args.cursor.now.tokens c.args.cursor.now.end) c.written.result
    (fails_written c.args.cursor.now.tokens (sym c.begins_use.ensures ∙ c.if-begins_use.false) c.args.cursor.now.end) c.written.ensures.text
