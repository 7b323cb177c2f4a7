use Rattle.std.proofs.Common.{◌∙◌}
use Rattle.hem_print.proofs.Led.{protocol_made}
use Rattle.hem_print.proofs.protocol.protocol_text.Goals as goal

pub returns : goal.returns
returns c =
    c.into_string.ensures
    ∙ protocol_made c.args.p.now c.new-output.result c.write_declarations.new.output c.write_kind.new.output c.write_kind-2.new.output c.write_kind-3.new.output c.text.new.self
    c.new-output.ensures c.in_ok-write_declarations.ensures c.in_ok-write_kind.ensures c.in_ok-write_kind-2.ensures c.in_ok-write_kind-3.ensures c.in_ok-text.ensures.ok
