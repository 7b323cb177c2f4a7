use Rattle.std.proofs.Common.{ap, ◌∙◌, slice_get}
use Rattle.std.specs.Option.{option_map}
use Rattle.hem_syntax.proofs.protocol.Protocol.message_name.Goals as goal

pub returns-clause-name : goal.returns-clause-name
returns-clause-name c = c.name.ensures ∙ ap (λ d. option_map (λ m. m.0) (slice_get d.messages c.args.id.0)) c.self.view_is
