use Rattle.std.proofs.Common.{◌≡◌, true, false}
use Rattle.hem_text.specs.Tokens.{end_place}
use Rattle.hem_parser.proofs.Using.{read_whole, not_whole, not_read}
use Rattle.hem_parser.proofs.shipped_text.whole.Goals as goal

pub returns-then-is_at_end : goal.returns-then-is_at_end
returns-then-is_at_end c = read_whole c.args.bytes.now c.written.new.cursor.tokens c.in-Ok.p (rw c.new-cursor.ensures at c.in-Ok.ensures.ok) (c.is_at_end.ensures.0 c.if-is_at_end.true)

pub returns-else-is_at_end : goal.returns-else-is_at_end
returns-else-is_at_end c = not_whole c.args.bytes.now c.written.new.cursor.tokens c.in-Ok.p (rw c.new-cursor.ensures at c.in-Ok.ensures.ok) (λ empty. let h : false ≡ true = rw c.if-is_at_end.false at (c.is_at_end.ensures.1 empty) in cc)

pub returns-in-Err-Text : goal.returns-in-Err-Text
returns-in-Err-Text c = not_read c.args.bytes.now (end_place c.args.bytes.now) c.in-Err-Text.field-0-0 (rw c.in-Err-Text.field-0-is at (rw c.new-cursor.ensures at c.in-Err-Text.ensures.text))
