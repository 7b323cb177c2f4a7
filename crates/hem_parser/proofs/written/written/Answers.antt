use Rattle.hem_parser.proofs.Lawful.{lawful_out}
use Rattle.hem_parser.proofs.Using.{read_out}
use Rattle.hem_parser.proofs.written.written.Goals as goal

pub protocol_of-requires : goal.protocol_of-requires
protocol_of-requires c = lawful_out c.args.cursor.now.tokens c.in-Ok.ensures.ok.count c.nothing.result c.in-Ok.draft c.start.result.now c.nothing.ensures c.start.ensures c.in-Ok.ensures.ok.reads

pub returns-in-Ok-clause-ok : goal.returns-in-Ok-clause-ok
returns-in-Ok-clause-ok c = read_out c.nothing.result c.start.result.now c.nothing.ensures c.start.ensures c.args.cursor.now.tokens c.read_part.new.cursor.tokens c.in-Ok.draft c.protocol_of.result c.in-Ok.ensures.ok c.protocol_of.ensures
