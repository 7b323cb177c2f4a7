use Rattle.hem_modprint.proofs.Back.{reads_back}
use Rattle.hem_modprint.proofs.law.reads_back.Goals as goal

pub returns : goal.returns
returns c = reads_back
