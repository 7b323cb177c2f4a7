use Rattle.hem_crew.proofs.Few.{crew-few}
use Rattle.hem_crew.proofs.crews_make_few_firings.Goals as goal

pub returns : goal.returns
returns c = crew-few
