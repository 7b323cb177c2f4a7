use Rattle.std.proofs.Common.{ap, ◌∙◌}
use Rattle.hem_syntax.specs.Protocol.{class_of}
use Rattle.hem_syntax.proofs.protocol.Protocol.class.Goals as goal

pub returns : goal.returns
returns c = c.copied.ensures ∙ c.value.ensures ∙ ap (λ d. class_of d c.args.id) c.self.view_is
