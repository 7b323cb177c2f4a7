use Rattle.hem_emit.proofs.LawfulRules.{modules_lawful}
use Rattle.hem_emit.proofs.written.modules_may_be_written.Goals as goal

pub returns : goal.returns
returns c = modules_lawful
