use Rattle.hem_emit.proofs.Matched.{modules_match}
use Rattle.hem_emit.proofs.written.modules_match_the_protocol.Goals as goal

pub returns : goal.returns
returns c = modules_match
